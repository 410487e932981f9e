-- The index once the edit list is ready, and what comes of a header.
use mathlib.Core.Path.{◌≡◌, refl, ap, ◌∙◌}
use mathlib.Core.Bool.{Bool, true, false}
use mathlib.Core.List.{List, ◌++◌}
use Prim.Native.Nat.{ℕ}
use native.Mathlib.Omega.{arith}
use lib.ListN.{length, take, drop}
use lib.Seq.{take_at}
use borrow.Author.Tests.{le-ltb}
use Rattle.parse.specs.Choice.{if}
use Rattle.class.specs.Class.{Classes}
use Rattle.parse.specs.Limit.{over_limit}
use Rattle.header.specs.declared.Header.{Header}
use Rattle.header.specs.Header.{header_of, unreadable}
use Rattle.iter.specs.Entries.{entries_of}
use Rattle.checks.specs.Check.{judge_body, check_of}
use Rattle.iter.specs.Items.{items}
use Rattle.edits.specs.List.{edits_of, places_of, in_order, prepared_by, prepared_of, index_after}
use Rattle.checks.specs.declared.Refusal.TheVariants.{BadHeader}
use Rattle.merge.specs.Override.{Override}
use Rattle.merge.specs.Merge.{old_entries, judged_by, judged}
use Rattle.merge.proofs.EditsRise.{Readied, readied}
use Rattle.std.specs.declared.result.Result.TheVariants.{Err, Ok}
use Rattle.edits.specs.declared.list.NotPrepared.TheVariants.{TooLarge}
use Rattle.merge.specs.declared.NotMerged.TheVariants.{Refused}

-- ---- the index

module _ (byte : Classes) (n : ℕ) (list index : List ℕ) (k : ℕ) (e : prepared_of byte n list (length index) ≡ Ok k) where
  abbrev pub places : List ℕ
  places = in_order list (places_of (edits_of byte n list))

  not_large : over_limit (length list) ≡ false
  unfolding prepared_of
  not_large = go (over_limit (length list)) e
    where
      go : (t : Bool) → if t (Err TooLarge) (prepared_by list (length index) (edits_of byte n list)) ≡ Ok k → t ≡ false
      go true q = absurd (let z : ◌≡◌ {A = ℕ} 0 1 = cc in omega arith)
      go false q = refl

  pub ready : Readied byte n list (length index) k
  ready = readied byte n list (length index) k e

  index_is : index_after byte n list index ≡ places ++ drop (length (places_of (edits_of byte n list))) index
  unfolding index_after
  index_is =
      rw (not_large, le-ltb (length index) (length (places_of (edits_of byte n list))) (omega (arith, ready.count, ready.room_enough)))

  -- its first entries are the edits' places in name order
  pub front_is : take k (index_after byte n list index) ≡ places
  front_is = ap (take k) index_is ∙ take_at places (drop (length (places_of (edits_of byte n list))) index) k ready.in_order_lem

-- ---- by what was found of the header

module _ (byte : Classes) (n : ℕ) (file : List ℕ) (edits : List Override) (room : ℕ) where
  pub bad_header : (text : ℕ) → header_of byte file ≡ unreadable text → judged byte n file edits room ≡ Err (Refused (BadHeader text))
  unfolding judged check_of
  bad_header text e = rw e

  module _ (h : Header) (e : header_of byte file ≡ Ok h) where
    pub old_entries_lem : old_entries byte n file ≡ entries_of n (items byte n (drop h.body file))
    unfolding old_entries
    old_entries_lem = rw e

    pub good_header : judged byte n file edits room ≡ judged_by (entries_of n (items byte n (drop h.body file))) edits room (judge_body byte n file h.body)
    unfolding judged check_of
    good_header = rw (e, old_entries_lem)
