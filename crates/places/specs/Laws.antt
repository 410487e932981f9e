-- What it is to be an order, a list in order, and a list of names that rise, or are different, or are twins: for the theorems of `sort`.
use Rattle.std.specs.Prelude.{Bool, true, false, ◌≡◌, List, [], ◌∷◌, ℕ, ◌+◌, ◌<◌, eqb, length, get_or}
use Rattle.class.specs.Class.{bit}
use Rattle.compare.specs.Order.{order_of}
use Rattle.std.specs.declared.cmp.Ordering.TheVariants.{Less}

-- a test of coming first that is a strict total order
pub record StrictOrder (lt : ℕ → ℕ → Bool) : Type 0 where
  pub irreflexive : (p : ℕ) → lt p p ≡ false
  pub transitive : (p q r : ℕ) → lt p q ≡ true → lt q r ≡ true → lt p r ≡ true
  pub total : (p q : ℕ) → lt p q ≡ false → lt q p ≡ false → p ≡ q

-- the entry at i does not come before the one at j
abbrev pub NotBefore : (ℕ → ℕ → Bool) → List ℕ → ℕ → ℕ → Type 0
NotBefore lt l i j = lt (get_or l i 0) (get_or l j 0) ≡ false

-- no entry comes before one in front of it, its neighbour or any other
abbrev pub Ordered : (ℕ → ℕ → Bool) → List ℕ → Type 0
Ordered lt l = (i j : ℕ) → i < j → j < length l → NotBefore lt l j i

-- how often p stands in a list
abbrev pub count : ℕ → List ℕ → ℕ
count p [] = 0
count p (q ∷ l) = bit (eqb p q) + count p l

-- every number stands as often in the one list as in the other
abbrev pub Permutation : List ℕ → List ℕ → Type 0
Permutation a b = (p : ℕ) → count p a ≡ count p b

-- a is l in order
pub record InOrder (lt : ℕ → ℕ → Bool) (l a : List ℕ) : Type 0 where
  pub ascending : Ordered lt a
  pub permutation : Permutation a l

-- each name is smaller than every one behind it
abbrev pub NamesRise : (ℕ → List ℕ) → List ℕ → Type 0
NamesRise name l = (i j : ℕ) → i < j → j < length l → order_of (name (get_or l i 0)) (name (get_or l j 0)) ≡ Less

-- no two entries have the same name
abbrev pub AllDifferent : (ℕ → List ℕ) → List ℕ → Type 0
AllDifferent name l = (i j : ℕ) → i < j → j < length l → name (get_or l i 0) ≡ name (get_or l j 0) → ⊥

-- p stands in the list right behind an entry of the same name
pub record HasTwin (name : ℕ → List ℕ) (l : List ℕ) (p : ℕ) : Type 0 where
  pub at : ℕ
  pub within : at + 1 < length l
  pub there : get_or l (at + 1) 0 ≡ p
  pub same_name : name (get_or l at 0) ≡ name p
