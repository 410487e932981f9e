-- The order of two lists from a place on, by what stands there; and the laws of the order.
use mathlib.Core.Path.{◌≡◌, refl, sym, ap, ◌∙◌}
use mathlib.Core.Bool.{Bool, true, false, true≢false}
use mathlib.Core.Logic.{◌⊎◌, inl, inr}
use mathlib.Core.List.{List, [], ◌∷◌}
use Prim.Native.Nat.{ℕ, zero, suc, ◌+◌, ◌≤◌, ◌<◌}
use native.Mathlib.Nat.{add-zero, add-suc}
use native.Mathlib.Numerals.{add-one}
use native.Mathlib.Omega.{arith}
use lib.Dec.{ltb}
use borrow.Author.Tests.{ltb-true, ltb-false, lt-ltb, le-ltb}
use lib.ListN.{length, get_or, drop, drop_of_length-le}
use lib.Seq.{drop-cons}
pub use Rattle.std.specs.Ordering.{is_eq as is_equal, ordering_reverse as turned}
use Rattle.compare.specs.Order.{order_of}
use Rattle.compare.specs.Prefix.{same}
use Rattle.compare.proofs.Prefixes.{same_is, same_self}
use Rattle.std.specs.declared.cmp.Ordering.{Ordering}
use Rattle.std.specs.declared.cmp.Ordering.TheVariants.{Equal, Greater, Less}

module _ (a b : List ℕ) where
  module _ (i : ℕ) where
    pub both_end : length a ≤ i → length b ≤ i → order_of (drop i a) (drop i b) ≡ Equal
    both_end h k = rw (drop_of_length-le a h, drop_of_length-le b k)

    pub first_ends : length a ≤ i → i < length b → order_of (drop i a) (drop i b) ≡ Less
    first_ends h k = rw (drop_of_length-le a h, drop-cons b i 0 k)

    pub second_ends : i < length a → length b ≤ i → order_of (drop i a) (drop i b) ≡ Greater
    second_ends h k = rw (drop-cons a i 0 h, drop_of_length-le b k)

    module _ (h : i < length a) (k : i < length b) where
      pub smaller : get_or a i 0 < get_or b i 0 → order_of (drop i a) (drop i b) ≡ Less
      smaller l = rw (drop-cons a i 0 h, drop-cons b i 0 k, lt-ltb _ _ l)

      pub greater : get_or b i 0 < get_or a i 0 → order_of (drop i a) (drop i b) ≡ Greater
      greater l = rw (drop-cons a i 0 h, drop-cons b i 0 k, le-ltb (get_or a i 0) (get_or b i 0) (omega arith), lt-ltb (get_or b i 0) (get_or a i 0) l)

      pub alike : get_or a i 0 ≡ get_or b i 0 → order_of (drop i a) (drop i b) ≡ order_of (drop (i + 1) a) (drop (i + 1) b)
      alike e = rw (drop-cons a i 0 h, drop-cons b i 0 k, le-ltb (get_or a i 0) (get_or b i 0) (omega arith), le-ltb (get_or b i 0) (get_or a i 0) (omega arith), add-one)

  pub skip : (i n : ℕ) → i + n ≤ length a → i + n ≤ length b → ((k : ℕ) → k < n → get_or a (i + k) 0 ≡ get_or b (i + k) 0)
      → order_of (drop i a) (drop i b) ≡ order_of (drop (i + n) a) (drop (i + n) b)
  skip i zero g h all = rw add-zero
  skip i (suc n) g h all =
      skip i n (omega arith) (omega arith) (λ k l. all k (omega arith))
      ∙ alike (i + n) (omega arith) (omega arith) (all n (omega arith))
      ∙ rw (add-suc i n, add-one (i + n))

-- ---- the order of two strings with a first byte

module _ (x : ℕ) (a : List ℕ) (y : ℕ) (b : List ℕ) where
  pub same_first : x ≡ y → order_of (x ∷ a) (y ∷ b) ≡ order_of a b
  same_first e = rw (le-ltb x y (omega arith), le-ltb y x (omega arith))

  pub data Firsts : Type 0 where
    below : x < y → order_of (x ∷ a) (y ∷ b) ≡ Less → Firsts
    above : y < x → order_of (x ∷ a) (y ∷ b) ≡ Greater → Firsts
    level : x ≡ y → order_of (x ∷ a) (y ∷ b) ≡ order_of a b → Firsts

  pub firsts : Firsts
  firsts = go (ltb x y) (ltb y x) refl refl
    where
      go : (t v : Bool) → ltb x y ≡ t → ltb y x ≡ v → Firsts
      go true v p q = below (ltb-true x y p) (rw p)
      go false true p q = above (ltb-true y x q) (rw (p, q))
      go false false p q = level (omega (arith, ltb-false)) (rw (p, q))

  -- smaller by the first byte, or alike there and smaller behind it
  pub less_split : order_of (x ∷ a) (y ∷ b) ≡ Less → (x < y) ⊎ ((x ≡ y) × (order_of a b ≡ Less))
  less_split h = go firsts
    where
      go : Firsts → (x < y) ⊎ ((x ≡ y) × (order_of a b ≡ Less))
      go (below l e) = inl l
      go (above l e) = absurd (let z : ◌≡◌ {A = ℕ} 0 1 = cc in omega arith)
      go (level l e) = inr (l, sym e ∙ h)

-- ---- the laws of the order: it is total, and equal only to itself

pub order_refl : (a : List ℕ) → order_of a a ≡ Equal
order_refl [] = refl
order_refl (x ∷ a) = same_first x a x a refl ∙ order_refl a

pub order_equal : (a b : List ℕ) → order_of a b ≡ Equal → a ≡ b
order_equal [] [] h = refl
order_equal [] (y ∷ b) h = cc
order_equal (x ∷ a) [] h = cc
order_equal (x ∷ a) (y ∷ b) h = go (firsts x a y b) (order_equal a b)
  where
    go : Firsts x a y b → (order_of a b ≡ Equal → a ≡ b) → x ∷ a ≡ y ∷ b
    go (below l e) ih = cc
    go (above l e) ih = cc
    go (level q e) ih = let t : a ≡ b = ih (sym e ∙ h) in cc

-- comparing as equal is being the same bytes
pub same_by_order : (a b : List ℕ) → same a b ≡ is_equal (order_of a b)
same_by_order a b = go (same a b) refl (order_of a b) refl
  where
    go : (t : Bool) → same a b ≡ t → (o : Ordering) → order_of a b ≡ o → t ≡ is_equal o
    go true s o e = ap is_equal (sym (ap (order_of a) (same_is a b s) ∙ order_refl a) ∙ e)
    go false s Less e = refl
    go false s Equal e = absurd (true≢false (sym (same_self a) ∙ ap (same a) (order_equal a b e) ∙ s))
    go false s Greater e = refl

pub order_turned : (a b : List ℕ) → order_of b a ≡ turned (order_of a b)
order_turned [] [] = refl
order_turned [] (y ∷ b) = refl
order_turned (x ∷ a) [] = refl
order_turned (x ∷ a) (y ∷ b) = go (firsts x a y b) (order_turned a b)
  where
    go : Firsts x a y b → order_of b a ≡ turned (order_of a b) → order_of (y ∷ b) (x ∷ a) ≡ turned (order_of (x ∷ a) (y ∷ b))
    go (below l e) ih = rw (e, le-ltb y x (omega arith), lt-ltb x y l)
    go (above l e) ih = rw (e, lt-ltb y x l)
    go (level l e) ih = same_first y b x a (sym l) ∙ ih ∙ sym (ap turned e)

module _ (a b : List ℕ) where
  pub less_flip : order_of a b ≡ Less → order_of b a ≡ Greater
  less_flip h = order_turned a b ∙ ap turned h

  pub greater_flip : order_of a b ≡ Greater → order_of b a ≡ Less
  greater_flip h = order_turned a b ∙ ap turned h

pub less_trans : (a b c : List ℕ) → order_of a b ≡ Less → order_of b c ≡ Less → order_of a c ≡ Less
less_trans [] [] c h i = cc
less_trans [] (y ∷ b) [] h i = cc
less_trans [] (y ∷ b) (z ∷ c) h i = refl
less_trans (x ∷ a) [] c h i = cc
less_trans (x ∷ a) (y ∷ b) [] h i = cc
less_trans (x ∷ a) (y ∷ b) (z ∷ c) h i = go (less_split x a y b h) (less_split y b z c i) (less_trans a b c)
  where
    go : (x < y) ⊎ ((x ≡ y) × (order_of a b ≡ Less)) → (y < z) ⊎ ((y ≡ z) × (order_of b c ≡ Less))
        → (order_of a b ≡ Less → order_of b c ≡ Less → order_of a c ≡ Less) → order_of (x ∷ a) (z ∷ c) ≡ Less
    go (inl p) (inl q) ih = rw (lt-ltb x z (omega arith))
    go (inl p) (inr q) ih = rw (lt-ltb x z (omega arith))
    go (inr p) (inl q) ih = rw (lt-ltb x z (omega arith))
    go (inr p) (inr q) ih = rw (le-ltb x z (omega arith), le-ltb z x (omega arith)) (ih p.1 q.1)
