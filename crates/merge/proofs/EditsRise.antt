-- A prepared edit list: how many edits it has, and that in order their names rise, and what they put there is sound.
use mathlib.Core.Path.{◌≡◌, refl, ◌∙◌}
use mathlib.Core.Bool.{Bool, true, false}
use mathlib.Core.List.{List, [], ◌∷◌}
use Prim.Native.Nat.{ℕ, ◌*◌, ◌≤◌, ◌<◌}
use native.Mathlib.Omega.{arith}
use lib.Dec.{ltb}
use lib.ListN.{length, get_or}
use lib.Seq.{take-length}
use borrow.Author.Tests.{ltb-false}
use Rattle.parse.specs.Choice.{if}
use Rattle.class.specs.Class.{Classes, paper}
use Rattle.parse.specs.Limit.{over_limit}
use Rattle.compare.specs.Order.{order_of}
use Rattle.name.specs.Name.{valid_name}
use Rattle.name.proofs.Laws.{not_empty}
use Rattle.places.specs.declared.name.Layout.TheVariants.{Edit}
use Rattle.parts.specs.Parts.{edit_name}
use Rattle.places.specs.Name.{standing_name}
use Rattle.places.specs.Order.{comes_first}
use Rattle.sort.specs.Twin.{first_twin}
use Rattle.sort.proofs.Pairs.{Each, each_map, Pairs, pairs_by}
use Rattle.sort.proofs.Sorting.{each_sorted}
use Rattle.sort.proofs.Theorems.{no_twin_names_rise}
use Rattle.edits.specs.List.{Listed, all, bad, edits_of, places_of, in_order, twins_by, twins_of, prepared_by, prepared_of}
use Rattle.edits.proofs.Ordering.{length_order}
use Rattle.merge.specs.Override.{edits_at}
use Rattle.merge.specs.Splice.{Above, Rising}
use Rattle.merge.proofs.EditsSound.{IsEdit, places_edits, edit_name_valid, edit_puts}
use Rattle.merge.proofs.Entries.{Rises}
use Rattle.std.specs.declared.cmp.Ordering.TheVariants.{Less}
use Rattle.std.specs.declared.option.Option.{Option}
use Rattle.std.specs.declared.option.Option.TheVariants.{None, Some}
use Rattle.std.specs.declared.result.Result.TheVariants.{Err, Ok}
use Rattle.edits.specs.declared.list.NotPrepared.TheVariants.{ShortIndex, TooLarge}

-- ---- names that rise

module _ (list : List ℕ) where
  above : (name : List ℕ) (l : List ℕ) → Each (λ p. order_of name (edit_name list p) ≡ Less) l → Above list name l
  above name [] e = tt
  above name (p ∷ l) e = (e.0, above name l e.1)

  rising : (l : List ℕ) → Pairs (λ p q. order_of (edit_name list p) (edit_name list q) ≡ Less) l → Rising list l
  rising [] e = tt
  rising (p ∷ l) e = (above (edit_name list p) l e.0, rising l e.1)

  pub in_order_rising : (places : List ℕ) → first_twin (standing_name Edit list) (in_order list places) ≡ None → Rising list (in_order list places)
  in_order_rising places none =
      rising (in_order list places)
      (pairs_by (λ p q. order_of (edit_name list p) (edit_name list q) ≡ Less) (in_order list places) (no_twin_names_rise Edit list places none))

-- a valid name is greater than none
above_none : (name : List ℕ) → valid_name paper name ≡ true → order_of [] name ≡ Less
above_none [] v = cc (not_empty paper)
above_none (b ∷ name) v = refl

-- ---- a list that has no fault and no twins

module _ (n : ℕ) (list places : List ℕ) (listed : edits_of paper n list ≡ all places) where
  pub in_order_edits : Each (IsEdit paper n list) (in_order list places)
  in_order_edits = each_sorted (comes_first Edit list) (IsEdit paper n list) places (places_edits paper n list places listed).0

  module _ (half : ℕ) (even : n ≡ 2 * half) (bytes : (i : ℕ) → get_or list i 0 < 256) where
    rises : (last l : List ℕ) → Each (IsEdit paper n list) l → Above list last l → Rising list l → Rises n last (edits_at n list l)
    rises last [] e a r = tt
    rises last (p ∷ l) e a r = (a.0, edit_puts n list p e.0 half even bytes, rises (edit_name list p) l e.1 r.0 r.1)

    pub in_order_rises : first_twin (standing_name Edit list) (in_order list places) ≡ None → Rises n [] (edits_at n list (in_order list places))
    in_order_rises none =
        let names =
        each_map (IsEdit paper n list) (λ p. order_of [] (edit_name list p) ≡ Less)
        (λ p w. above_none (edit_name list p) (edit_name_valid n list p w)) (in_order list places) in_order_edits
        in
        rises [] (in_order list places) in_order_edits (above list [] (in_order list places) names) (in_order_rising list places none)

-- ---- what Ready says of the list

pub record Readied (byte : Classes) (n : ℕ) (list : List ℕ) (room k : ℕ) : Type 0 where
  pub listed : edits_of byte n list ≡ all (places_of (edits_of byte n list))
  pub count : length (places_of (edits_of byte n list)) ≡ k
  pub in_order_lem : length (in_order list (places_of (edits_of byte n list))) ≡ k
  pub room_enough : k ≤ room
  pub few : k ≤ 4096
  pub no_twin : first_twin (standing_name Edit list) (in_order list (places_of (edits_of byte n list))) ≡ None

module _ (byte : Classes) (n : ℕ) (list : List ℕ) (room k : ℕ) where
  ready_twin : (count : ℕ) (t : Option ℕ) → twins_by count t ≡ Ok k → (count ≡ k) × (t ≡ None)
  ready_twin count (Some place) e = absurd (let z : ◌≡◌ {A = ℕ} 0 1 = cc in omega arith)
  ready_twin count None e = (cc, refl)

  ready_all : (l : List ℕ) → edits_of byte n list ≡ all l → prepared_by list room (all l) ≡ Ok k → Readied byte n list room k
  unfolding twins_of
  ready_all l q e = go (ltb room (length l)) refl e
    where
      go : (t : Bool) → ltb room (length l) ≡ t → if t (Err ShortIndex) (twins_by (length l) (first_twin (standing_name Edit list) (in_order list l))) ≡ Ok k
          → Readied byte n list room k
      go true p e = absurd (let z : ◌≡◌ {A = ℕ} 0 1 = cc in omega arith)
      go false p e =
          let (count, no_twin) = ready_twin (length l) (first_twin (standing_name Edit list) (in_order list l)) e in
          let long : length (in_order list l) ≡ length l = rw (take-length l) at (length_order list l (length l) (omega arith)) in
          record {
            listed = rw q;
            count = rw q count;
            in_order_lem = rw q (long ∙ count);
            room_enough = omega (arith, ltb-false room (length l) p);
            few = omega (arith, (places_edits byte n list l q).1);
            no_twin = rw q no_twin;
          }

  pub readied : prepared_of byte n list room ≡ Ok k → Readied byte n list room k
  unfolding prepared_of
  readied e = go (over_limit (length list)) (edits_of byte n list) refl e
    where
      go : (t : Bool) (x : Listed) → edits_of byte n list ≡ x → if t (Err TooLarge) (prepared_by list room x) ≡ Ok k → Readied byte n list room k
      go true x q e = absurd (let z : ◌≡◌ {A = ℕ} 0 1 = cc in omega arith)
      go false (all l) q e = ready_all l q e
      go false (bad why) q e = absurd (let z : ◌≡◌ {A = ℕ} 0 1 = cc in omega arith)
