-- One more byte, and what it means that none is among them.
use mathlib.Core.Path.{◌≡◌, refl, sym}
use mathlib.Core.Bool.{Bool, true, false, ◌||◌, false≢true}
use mathlib.Core.List.{List, [], ◌∷◌}
use Prim.Native.Nat.{ℕ, zero, suc, ◌+◌, ◌<◌}
use native.Mathlib.Numerals.{add-one}
use native.Mathlib.Omega.{arith}
use lib.Dec.{eqb}
use lib.ListN.{length, get_or, take, drop, length-drop}
use lib.Seq.{get_or-drop}
use Rattle.block.specs.Among.{among}

module _ (b : ℕ) where
  pub among_next : (l : List ℕ) (k : ℕ) → k < length l → among b (take (suc k) l) ≡ (among b (take k l) || eqb (get_or l k 0) b)
  among_next [] k h = absurd (omega arith)
  among_next (x ∷ l) zero h = go (eqb x b)
    where
      go : (t : Bool) → (t || false) ≡ t
      go true = refl
      go false = refl
  among_next (x ∷ l) (suc k) h = go (eqb x b) (among_next l k (omega arith))
    where
      go : (t : Bool) → among b (take (suc k) l) ≡ (among b (take k l) || eqb (get_or l k 0) b)
          → (t || among b (take (suc k) l)) ≡ ((t || among b (take k l)) || eqb (get_or l k 0) b)
      go true e = refl
      go false e = e

  -- a turn of the loop
  pub among_turn : (s : List ℕ) (k : ℕ) (any : Bool) → k < length s → any ≡ among b (take k s) → (any || eqb (get_or s k 0) b) ≡ among b (take (k + 1) s)
  among_turn s k any h e = rw (e, add-one k) (sym (among_next s k h))

  among_none : (l : List ℕ) (n k : ℕ) → among b (take n l) ≡ false → k < n → k < length l → eqb (get_or l k 0) b ≡ false
  among_none [] n k e h i = absurd (omega arith)
  among_none (x ∷ l) zero k e h i = absurd (omega arith)
  among_none (x ∷ l) (suc n) zero e h i = go (eqb x b) e
    where
      go : (t : Bool) → (t || among b (take n l)) ≡ false → t ≡ false
      go true q = absurd (false≢true (sym q))
      go false q = refl
  among_none (x ∷ l) (suc n) (suc k) e h i = among_none l n k (go (eqb x b) e) (omega arith) (omega arith)
    where
      go : (t : Bool) → (t || among b (take n l)) ≡ false → among b (take n l) ≡ false
      go true q = absurd (false≢true (sym q))
      go false q = q

  -- counted from the front of all bytes
  pub none_among : (s : List ℕ) (at n k : ℕ) → among b (take n (drop at s)) ≡ false → k < n → at + k < length s → eqb (get_or s (at + k) 0) b ≡ false
  none_among s at n k e h i = rw (← get_or-drop at s k 0) (among_none (drop at s) n k e h (omega (arith, length-drop at s)))
