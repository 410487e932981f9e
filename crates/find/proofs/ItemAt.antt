-- The item that a place of a body lies in, and that it is good where all are. For any classes.
use mathlib.Core.Path.{◌≡◌, refl, ap}
use mathlib.Core.Bool.{Bool, true, false, and-eq-true_iff}
use mathlib.Core.List.{List, [], ◌∷◌, ◌++◌}
use Prim.Native.Nat.{ℕ, ◌+◌, ◌-◌, ◌≤◌, ◌<◌}
use native.Mathlib.Omega.{arith}
use lib.Dec.{ltb}
use lib.ListN.{length, length-append}
use borrow.Author.Tests.{ltb-true, ltb-false}
use Rattle.class.specs.Class.{Classes}
use Rattle.iter.specs.Items.{Item, items, bytes_of}
use Rattle.checks.specs.Passes.{is_good, all_good}
use Rattle.iter.specs.Stands.{Stands}
use Rattle.iter.proofs.Items.{tile}

-- ---- among some items

record Among (l : List Item) (p : ℕ) : Type 0 where
  before : List Item
  it : Item
  after : List Item
  all : l ≡ before ++ it ∷ after
  from : length (bytes_of before) ≤ p
  to : p < length (bytes_of before) + length it.bytes

among : (l : List Item) (p : ℕ) → p < length (bytes_of l) → Among l p
among [] p h = absurd (omega arith)
among (i ∷ l) p h = go (ltb p k) refl (among l (p - k))
  where
    k : ℕ
    k = length i.bytes

    go : (t : Bool) → ltb p k ≡ t → (p - k < length (bytes_of l) → Among l (p - k)) → Among (i ∷ l) p
    go true e ih = record { before = []; it = i; after = l; all = refl; from = omega arith; to = omega (arith, ltb-true p k e) }
    go false e ih =
        let q = ltb-false p k e in
        let x = ih (omega (arith, length-append i.bytes (bytes_of l))) in
        let d = length-append i.bytes (bytes_of x.before) in
        record {
          before = i ∷ x.before;
          it = x.it;
          after = x.after;
          all = ap (λ (m : List Item). i ∷ m) x.all;
          from = omega (arith, x.from);
          to = omega (arith, x.to);
        }

good_in : (before : List Item) (it : Item) (after : List Item) → all_good (before ++ it ∷ after) ≡ true → is_good it.what ≡ true
good_in [] it after g = ((and-eq-true_iff (is_good it.what) (all_good after)).0 g).0
good_in (b ∷ before) it after g = good_in before it after ((and-eq-true_iff (is_good b.what) (all_good (before ++ it ∷ after))).0 g).1

-- ---- in a body

pub record Lies (byte : Classes) (n : ℕ) (s : List ℕ) (p : ℕ) : Type 0 where
  pub place : ℕ
  pub it : Item
  pub stands : Stands byte n s place it
  pub from : place ≤ p
  pub to : p < place + length it.bytes

module _ (byte : Classes) (n : ℕ) (s : List ℕ) where
  pub lies : (p : ℕ) → p < length s → Lies byte n s p
  lies p h =
      let x = among (items byte n s) p (rw (tile byte n s) h) in
      record {
        place = length (bytes_of x.before);
        it = x.it;
        stands = record { before = x.before; after = x.after; all = x.all; here = refl };
        from = x.from;
        to = x.to;
      }

  pub stands_good : {place : ℕ} {it : Item} → all_good (items byte n s) ≡ true → Stands byte n s place it → is_good it.what ≡ true
  stands_good {place} {it} g x = good_in x.before it x.after (rw x.all at g)
