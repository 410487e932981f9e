-- What holds of each entry of a list, and of each two, one behind the other: by recursion on the list and by index.
use mathlib.Core.List.{List, [], ◌∷◌}
use Prim.Native.Nat.{ℕ, zero, suc, ◌<◌, suc-le-suc}
use native.Mathlib.Nat.{zero-lt-suc}
use native.Mathlib.Omega.{arith}
use lib.ListN.{length, get_or}

module _ (P : ℕ → Type 0) where
  abbrev pub Each : List ℕ → Type 0
  Each [] = Unit
  Each (x ∷ l) = P x × Each l

  pub each_at : (l : List ℕ) → Each l → (i : ℕ) → i < length l → P (get_or l i 0)
  each_at [] e i h = absurd (omega arith)
  each_at (x ∷ l) e zero h = e.0
  each_at (x ∷ l) e (suc i) h = each_at l e.1 i (omega arith)

  pub each_by : (l : List ℕ) → ((i : ℕ) → i < length l → P (get_or l i 0)) → Each l
  each_by [] h = tt
  each_by (x ∷ l) h = (h 0 (zero-lt-suc (length l)), each_by l (λ i k. h (suc i) (suc-le-suc k)))

pub each_map : (P Q : ℕ → Type 0) → ((x : ℕ) → P x → Q x) → (l : List ℕ) → Each P l → Each Q l
each_map P Q f [] e = tt
each_map P Q f (x ∷ l) e = (f x e.0, each_map P Q f l e.1)

module _ (R : ℕ → ℕ → Type 0) where
  abbrev pub Pairs : List ℕ → Type 0
  Pairs [] = Unit
  Pairs (x ∷ l) = Each (R x) l × Pairs l

  pub pairs_at : (l : List ℕ) → Pairs l → (i j : ℕ) → i < j → j < length l → R (get_or l i 0) (get_or l j 0)
  pairs_at [] p i j h k = absurd (omega arith)
  pairs_at (x ∷ l) p i zero h k = absurd (omega arith)
  pairs_at (x ∷ l) p zero (suc j) h k = each_at (R x) l p.0 j (omega arith)
  pairs_at (x ∷ l) p (suc i) (suc j) h k = pairs_at l p.1 i j (omega arith) (omega arith)

  pub pairs_by : (l : List ℕ) → ((i j : ℕ) → i < j → j < length l → R (get_or l i 0) (get_or l j 0)) → Pairs l
  pairs_by [] h = tt
  pairs_by (x ∷ l) h = (
    each_by (R x) l (λ j k. h 0 (suc j) (zero-lt-suc j) (suc-le-suc k)),
    pairs_by l (λ i j l k. h (suc i) (suc j) (suc-le-suc l) (suc-le-suc k)),
  )
