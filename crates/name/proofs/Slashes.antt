-- A slash that is met at a place, or among the bytes behind a place, stands in the name. Assumes nothing.
use mathlib.Core.Path.{◌≡◌, refl}
use mathlib.Core.Bool.{Bool, true, false, ◌&&◌, ◌||◌, or-true, false≢true}
use mathlib.Core.List.{List, [], ◌∷◌}
use Prim.Native.Nat.{ℕ, zero, suc, ◌<◌}
use native.Mathlib.Omega.{arith}
use lib.Dec.{eqb}
use lib.ListN.{length, get_or, take, drop}
use Rattle.block.specs.Among.{among}
use Rattle.name.specs.Words.{contains}
use Rattle.name.specs.Name.{slash}

pub slash_at : (s : List ℕ) (i : ℕ) → i < length s → eqb (get_or s i 0) 47 ≡ true → contains slash s ≡ true
slash_at [] i h e = absurd (omega arith)
slash_at (b ∷ s) zero h e = rw e
slash_at (b ∷ s) (suc i) h e = rw (slash_at s i (omega arith) e, or-true)

-- met among some of the bytes
among_front : (s : List ℕ) (n : ℕ) → among 47 (take n s) ≡ true → contains slash s ≡ true
among_front [] zero e = e
among_front [] (suc n) e = e
among_front (b ∷ s) zero e = absurd (false≢true e)
among_front (b ∷ s) (suc n) e = go (eqb b 47) e (among_front s n)
  where
    go : (t : Bool) → (t || among 47 (take n s)) ≡ true → (among 47 (take n s) ≡ true → contains slash s ≡ true) → (t && true || contains slash s) ≡ true
    go true q rest = refl
    go false q rest = rest q

pub slash_among : (s : List ℕ) (at n : ℕ) → among 47 (take n (drop at s)) ≡ true → contains slash s ≡ true
slash_among s zero n e = among_front s n e
slash_among [] (suc at) n e = among_front [] n e
slash_among (b ∷ s) (suc at) n e = rw (slash_among s at n e, or-true)
