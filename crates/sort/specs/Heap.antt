-- A heap in the first n entries of a list, for any test `lt` of coming first: what the functions of src/lib.rt promise each other.
use Rattle.std.specs.Prelude.{Bool, ◌≡◌, List, ℕ, ◌+◌, ◌*◌, ◌≤◌, ◌<◌, length, get_or, drop}
use Rattle.places.specs.Laws.{NotBefore, Permutation}

-- the entry c is a child of the entry p
abbrev pub Child : ℕ → ℕ → Type 0
Child p c = (2 * p + 1 ≤ c) × (c ≤ 2 * p + 2)

-- no parent from lo on comes before a child of it
abbrev pub Heap : (ℕ → ℕ → Bool) → List ℕ → ℕ → ℕ → Type 0
Heap lt a lo n = (p c : ℕ) → lo ≤ p → Child p c → c < n → NotBefore lt a p c

-- a heap but for the entry k, which may come before or after any other: the parent of k does not come before the children of k
pub record HeapBut (lt : ℕ → ℕ → Bool) (a : List ℕ) (lo n k : ℕ) : Type 0 where
  pub edge : (p c : ℕ) → lo ≤ p → Child p c → c < n → (p ≡ k → ⊥) → (c ≡ k → ⊥) → NotBefore lt a p c
  pub over : (p c : ℕ) → lo ≤ p → Child p k → Child k c → c < n → NotBefore lt a p c

-- r is a child of k, and does not come before the other
pub record LargerChild (lt : ℕ → ℕ → Bool) (a : List ℕ) (k n r : ℕ) : Type 0 where
  pub child : Child k r
  pub within : r < n
  pub largest : (c : ℕ) → Child k c → c < n → NotBefore lt a r c

-- b is a with the first n entries in another order
pub record Moved (a b : List ℕ) (n : ℕ) : Type 0 where
  pub size : length b ≡ length a
  pub permutation : Permutation b a
  pub behind : drop n b ≡ drop n a
  pub from : (i : ℕ) → i < n → (j : ℕ) × (j < n) × (get_or b i 0 ≡ get_or a j 0)

-- the list was l and is now a: the entry that stood at root has come down to k
pub record Down (lt : ℕ → ℕ → Bool) (l a : List ℕ) (root n k : ℕ) : Type 0 where
  pub low : root ≤ k
  pub within : k < n
  pub heap : HeapBut lt a root n k
  pub moved : Moved l a n
