-- Where all items are records, those that end before the end of some first bytes come out whatever follows these.
use mathlib.Core.Path.{◌≡◌, refl, sym, ap, ◌∙◌}
use mathlib.Core.Bool.{Bool, true, false, and-eq-true_iff}
use mathlib.Core.List.{List, [], ◌∷◌, ◌++◌}
use Prim.Native.Nat.{ℕ, zero, suc, ◌-◌, ◌<◌}
use native.Mathlib.Omega.{arith}
use lib.Dec.{ltb}
use lib.ListN.{length, take, drop, length-append, length-drop}
use lib.Seq.{drop-append-le, take-append-le, length-take-le}
use borrow.Author.Tests.{ltb-true}
use Rattle.parse.specs.Choice.{if}
use Rattle.class.specs.Class.{Classes}
use Rattle.decode.specs.Record.{record_of}
use Rattle.decode.proofs.Locality.{record_local}
use Rattle.iter.specs.Items.{Item, size_of, item_of, items}
use Rattle.checks.specs.Passes.{is_good, all_good}
use Rattle.damage.proofs.Cuts.{end_before, end_zero}
use Rattle.iter.proofs.Items.{items_step, size_good, size_le, size_some}
use Rattle.std.specs.declared.result.Result.{Result}
use Rattle.std.specs.declared.result.Result.TheVariants.{Err, Ok}
use Rattle.decode.specs.declared.reference.Fault.{Fault}
use Rattle.decode.specs.declared.reference.Record.{Record}

module _ (byte : Classes) (n : ℕ) where
  good_first : (s : List ℕ) → 0 < length s → all_good (items byte n s) ≡ true
      → (is_good (record_of byte n s) ≡ true) × (all_good (items byte n (drop (size_of byte n s) s)) ≡ true)
  good_first s h g = (and-eq-true_iff _ _).0 (rw (items_step byte n s h) at g)

  end_step : (place : ℕ) (s : List ℕ) → 0 < length s
      → end_before place (items byte n s)
      ≡ if (ltb (size_of byte n s) place) (item_of byte n s ∷ end_before (place - size_of byte n s) (items byte n (drop (size_of byte n s) s))) []
  end_step place s h =
      ap (end_before place) (items_step byte n s h)
      ∙ ap (λ (k : ℕ). if (ltb k place) (item_of byte n s ∷ end_before (place - k) (items byte n (drop (size_of byte n s) s))) [])
      (length-take-le (size_of byte n s) s (size_le byte n s))

  module _ (r r' : List ℕ) where
    -- a record with a byte behind it stays as it is
    stays : (u : List ℕ) → is_good (record_of byte n (u ++ r)) ≡ true → size_of byte n (u ++ r) < length u
        → (item_of byte n (u ++ r') ≡ item_of byte n (u ++ r)) × (size_of byte n (u ++ r') ≡ size_of byte n (u ++ r))
    stays u g l = go (record_of byte n (u ++ r)) refl g
      where
        go : (w : Result Record Fault) → record_of byte n (u ++ r) ≡ w → is_good w ≡ true
            → (item_of byte n (u ++ r') ≡ item_of byte n (u ++ r)) × (size_of byte n (u ++ r') ≡ size_of byte n (u ++ r))
        go (Err f) e h = (cc, cc)
        go (Ok found) e h =
            let k = found.size in
            let s : size_of byte n (u ++ r) ≡ k = size_good byte n (u ++ r) found e in
            let e' : record_of byte n (u ++ r') ≡ Ok found = record_local byte n u r r' found e (omega arith) in
            let s' : size_of byte n (u ++ r') ≡ k = size_good byte n (u ++ r') found e' in
            let t : take k (u ++ r') ≡ take k (u ++ r) = take-append-le k u r' (omega arith) ∙ sym (take-append-le k u r (omega arith)) in
            (cc, cc)

    abbrev Front : List ℕ → Type 0
    Front u = (others : List Item) × (items byte n (u ++ r') ≡ end_before (length u) (items byte n (u ++ r)) ++ others)

    -- one item on
    module _ (u : List ℕ) (some : 0 < length u) where
      abbrev k : ℕ
      k = size_of byte n (u ++ r)

      on : (t : Bool) → ltb k (length u) ≡ t → all_good (items byte n (u ++ r)) ≡ true
          → (all_good (items byte n (drop k u ++ r)) ≡ true → Front (drop k u)) → Front u
      on false e g ih = (items byte n (u ++ r'), rw (end_step (length u) (u ++ r) (omega (arith, length-append u r)), e))
      on true e g ih =
          let l : k < length u = ltb-true k (length u) e in
          let (first, rest) = good_first (u ++ r) (omega (arith, length-append u r)) g in
          let d : drop k (u ++ r) ≡ drop k u ++ r = drop-append-le k u r (omega arith) in
          let d' : drop k (u ++ r') ≡ drop k u ++ r' = drop-append-le k u r' (omega arith) in
          let (same, size) = stays u first l in
          let (others, x) = ih (rw d at rest) in
          let z : length u - k ≡ length (drop k u) = omega (arith, length-drop k u) in (
            others,
            rw (
              items_step byte n (u ++ r') (omega (arith, length-append u r')),
              same,
              size,
              d',
              end_step (length u) (u ++ r) (omega (arith, length-append u r)),
              e,
              d,
              z,
            )
                (ap (λ (y : List Item). item_of byte n (u ++ r) ∷ y) x),
          )

    fronts : (f : ℕ) (u : List ℕ) → length u < f → all_good (items byte n (u ++ r)) ≡ true → Front u
    fronts zero u h g = absurd (omega arith)
    fronts (suc f) [] h g = (items byte n r', rw (end_zero (items byte n r)))
    fronts (suc f) (b ∷ u) h g =
        let j = size_of byte n (b ∷ (u ++ r)) in
        on (b ∷ u) (omega arith) (ltb j (suc (length u))) refl g
        (fronts f (drop j (b ∷ u)) (omega (arith, length-drop j (b ∷ u), size_some byte n (b ∷ (u ++ r)) (omega arith))))

    pub front : (u : List ℕ) → all_good (items byte n (u ++ r)) ≡ true → Front u
    front u g = fronts (suc (length u)) u (omega arith) g
