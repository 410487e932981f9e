-- What comes of an edit list and an index: the answer, and what the index holds then.
use mathlib.Core.Path.{◌≡◌, refl, sym, ap, ◌∙◌}
use mathlib.Core.Bool.{true, false}
use mathlib.Core.List.{List, ◌++◌}
use Prim.Native.Nat.{ℕ, ◌+◌, ◌≤◌, ◌<◌}
use native.Mathlib.Nat.{zero-add}
use native.Mathlib.Omega.{arith}
use lib.ListN.{length, drop}
use borrow.Author.Tests.{lt-ltb, le-ltb}
use Rattle.class.specs.Class.{Classes}
use Rattle.parse.specs.Limit.{over_limit}
use Rattle.sort.specs.Sorted.{sorted}
use Rattle.edits.specs.declared.list.ListFault.{ListFault}
use Rattle.edits.specs.List.{Listed, all, bad, edits_of, counted, is_whole, places_of, in_order, twins_of, prepared_of, index_after}
use Rattle.std.specs.declared.result.Result.{Result}
use Rattle.std.specs.declared.result.Result.TheVariants.{Err, Ok}
use Rattle.edits.specs.declared.list.NotPrepared.{NotPrepared}
use Rattle.edits.specs.declared.list.NotPrepared.TheVariants.{BadList, ShortIndex, TooLarge}

-- ---- what a count, or a fault, says of the list

module _ (l : Listed) where
  pub counted_bad : (why : ListFault) → counted 0 l ≡ Err why → l ≡ bad why
  counted_bad why e = go l e
    where
      go : (x : Listed) → counted 0 x ≡ Err why → x ≡ bad why
      go (all k) q = cc
      go (bad f) q = let z : f ≡ why = cc in ap bad z

  pub counted_count : (k : ℕ) → counted 0 l ≡ Ok k → (l ≡ all (places_of l)) × (length (places_of l) ≡ k) × (is_whole l ≡ true)
  counted_count k e = go l e
    where
      go : (x : Listed) → counted 0 x ≡ Ok k → (x ≡ all (places_of x)) × (length (places_of x) ≡ k) × (is_whole x ≡ true)
      go (all p) q = let z : 0 + length p ≡ k = cc in (refl, sym (zero-add (length p)) ∙ z, refl)
      go (bad why) q = absurd (let z : ◌≡◌ {A = ℕ} 0 1 = cc in omega arith)

-- ---- outcomes

module _ (byte : Classes) (n : ℕ) (list index : List ℕ) where
  -- the answer and the index afterwards are the ones that the definitions give
  abbrev pub Comes : Result ℕ NotPrepared → List ℕ → Type 0
  Comes r after = (r ≡ prepared_of byte n list (length index)) × (after ≡ index_after byte n list index)

  pub comes_large : over_limit (length list) ≡ true → Comes (Err TooLarge) index
  unfolding prepared_of index_after
  comes_large h = (rw h, rw h)

  module _ (fine : over_limit (length list) ≡ false) where
    pub comes_bad : (why : ListFault) → counted 0 (edits_of byte n list) ≡ Err why → Comes (Err (BadList why)) index
    unfolding prepared_of index_after sorted
    comes_bad why e = let l = counted_bad (edits_of byte n list) why e in (rw (fine, l), rw (fine, l, le-ltb (length index) 0 (omega arith)))

    module _ (k : ℕ) (number_is : counted 0 (edits_of byte n list) ≡ Ok k) where
      abbrev places : List ℕ
      places = places_of (edits_of byte n list)

      pub comes_short : length index < k → Comes (Err ShortIndex) index
      unfolding prepared_of index_after
      comes_short h =
          let (l, z, w) = counted_count (edits_of byte n list) k number_is in
          let t = lt-ltb (length index) (length places) (omega arith) in
          (rw (fine, l, t), rw (fine, l, t))

      pub comes_ready : k ≤ length index → Comes (twins_of list k (in_order list places)) (in_order list places ++ drop k index)
      unfolding prepared_of index_after
      comes_ready h =
          let (l, z, w) = counted_count (edits_of byte n list) k number_is in
          let t = le-ltb (length index) (length places) (omega arith) in
          (rw (fine, l, t, z), rw (fine, l, t, z))
