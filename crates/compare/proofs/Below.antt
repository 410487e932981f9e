-- What holds at every place before i, and at n places from one on that is not behind i, holds at every place before their end.
use mathlib.Core.Path.{◌≡◌, refl, subst}
use mathlib.Core.Bool.{Bool, true, false}
use Prim.Native.Nat.{ℕ, ◌+◌, ◌-◌, ◌≤◌, ◌<◌}
use native.Mathlib.Omega.{arith}
use borrow.Author.Tests.{ltb-true, ltb-false}
use lib.Dec.{ltb}

pub below_join : (P : ℕ → Type 0) (i at n : ℕ) → at ≤ i → ((k : ℕ) → k < i → P k) → ((k : ℕ) → k < n → P (at + k)) → (k : ℕ) → k < at + n → P k
below_join P i at n h before here k l = go (ltb k i) refl
  where
    go : (t : Bool) → ltb k i ≡ t → P k
    go true e = before k (ltb-true k i e)
    go false e =
        let far = ltb-false k i e in
        let there : at + (k - at) ≡ k = omega arith in
        subst P there (here (k - at) (omega arith))
