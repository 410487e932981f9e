-- What halving comes to where the names ascend: a place of the wanted name, or a place that parts the smaller ones from the greater ones.
use mathlib.Core.Path.{◌≡◌, refl}
use mathlib.Core.Bool.{Bool, true, false}
use Prim.Native.Nat.{ℕ, zero, suc, ◌+◌, ◌≤◌, ◌<◌}
use native.Mathlib.Omega.{arith}
use lib.Dec.{ltb}
use borrow.Author.Tests.{ltb-true, ltb-false}
use Rattle.search.specs.Search.{middle, halve, missed}
use Rattle.search.proofs.Halving.{halve_done, halve_less, halve_greater, halve_equal}
use Rattle.std.specs.declared.cmp.Ordering.{Ordering}
use Rattle.std.specs.declared.cmp.Ordering.TheVariants.{Equal, Greater, Less}
use Rattle.std.specs.declared.result.Result.{Result}
use Rattle.std.specs.declared.result.Result.TheVariants.{Ok}
use Rattle.search.specs.declared.Miss.{Miss}

-- below a place that is too small all are, behind one that is too great all are; and no shape fails
pub record Ascends (order : ℕ → Ordering) (failure : ℕ → Bool) (len : ℕ) : Type 0 where
  pub down : (p q : ℕ) → p ≤ q → q < len → order q ≡ Less → order p ≡ Less
  pub up : (p q : ℕ) → p ≤ q → q < len → order p ≡ Greater → order q ≡ Greater
  pub reads : (p : ℕ) → p < len → failure p ≡ false

pub data Outcome (order : ℕ → Ordering) (len : ℕ) : Result ℕ Miss → Type 0 where
  found : (m : ℕ) → m < len → order m ≡ Equal → Outcome order len (Ok m)
  parted : (low : ℕ) → low ≤ len → ((p : ℕ) → p < low → order p ≡ Less) → ((p : ℕ) → low ≤ p → p < len → order p ≡ Greater)
      → Outcome order len (missed low false)

module _ (order : ℕ → Ordering) (failure : ℕ → Bool) (len : ℕ) (asc : Ascends order failure len) where
  -- between the turns
  record Window (low high : ℕ) : Type 0 where
    within : high ≤ len
    closed : low ≤ high
    below : (p : ℕ) → p < low → order p ≡ Less
    above : (p : ℕ) → high ≤ p → p < len → order p ≡ Greater

  closes : (turns low high : ℕ) → high ≤ low → Window low high → Outcome order len (halve order failure turns low high false)
  closes turns low high h w =
      rw (halve_done order failure turns low high false h) (parted low (omega (arith, w.within, w.closed)) w.below (λ p l. w.above p (omega arith)))

  goes_on : (turns low high : ℕ) → high ≤ low + turns → Window low high → Outcome order len (halve order failure turns low high false)
  goes_on zero low high enough w = closes zero low high (omega arith) w
  goes_on (suc turns) low high enough w = go (ltb low high) refl (order m) refl (goes_on turns)
    where
      m : ℕ
      m = middle low high

      go : (t : Bool) → ltb low high ≡ t → (o : Ordering) → order m ≡ o
          → ((l k : ℕ) → k ≤ l + turns → Window l k → Outcome order len (halve order failure turns l k false))
          → Outcome order len (halve order failure (suc turns) low high false)
      go false e o s ih = closes (suc turns) low high (ltb-false low high e) w
      go true e Equal s ih =
          let open! = ltb-true low high e in
          rw (halve_equal order failure low high false open! (suc turns) enough s) (found m (omega (arith, w.within)) s)
      go true e Less s ih =
          let open! = ltb-true low high e in
          let inside : m < len = omega (arith, w.within) in
          rw (halve_less order failure low high false open! (suc turns) enough s, asc.reads m inside)
          (ih (m + 1) high (omega arith)
          (record { within = w.within; closed = omega arith; below = λ p l. asc.down p m (omega arith) inside s; above = w.above }))
      go true e Greater s ih =
          let open! = ltb-true low high e in
          let inside : m < len = omega (arith, w.within) in
          rw (halve_greater order failure low high false open! (suc turns) enough s, asc.reads m inside)
          (ih low m (omega arith) (record { within = omega arith; closed = omega arith; below = w.below; above = λ p l k. asc.up m p l k s }))

  pub outcome : Outcome order len (halve order failure len 0 len false)
  outcome =
      goes_on len 0 len (omega arith)
      (record { within = omega arith; closed = omega arith; below = λ p l. absurd (omega arith); above = λ p l k. absurd (omega arith) })
