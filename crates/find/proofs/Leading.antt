-- Prefixes and the order of names: where names ascend, those with the prefix stand together, behind all that are smaller than it.
use mathlib.Core.Path.{◌≡◌, refl, sym, ap, ◌∙◌}
use mathlib.Core.Bool.{Bool, true, false, ◌&&◌, and-false}
use mathlib.Core.List.{List, [], ◌∷◌, ◌++◌}
use mathlib.Core.Logic.{◌⊎◌, inl, inr}
use Prim.Native.Nat.{ℕ, ◌<◌}
use native.Mathlib.Omega.{arith}
use lib.Dec.{ltb, eqb}
use borrow.Author.Tests.{le-ltb, ltb-false, ne_eqb, eq-eqb, eqb-true}
use Rattle.parse.specs.Choice.{if}
use Rattle.compare.specs.Order.{order_of}
use Rattle.compare.specs.Prefix.{begins}
use Rattle.compare.proofs.Orders.{less_split, less_trans}
use Rattle.iter.specs.Items.{Item, name_of}
use Rattle.checks.specs.Passes.{IsAscending}
use Rattle.find.specs.Present.{with_prefix}
use Rattle.std.specs.declared.cmp.Ordering.TheVariants.{Less}

-- ---- names

-- a name that is smaller than the prefix does not begin with it
smaller_begins : (w v : List ℕ) → order_of v w ≡ Less → begins w v ≡ false
smaller_begins [] [] h = cc
smaller_begins [] (b ∷ v) h = cc
smaller_begins (a ∷ w) [] h = refl
smaller_begins (a ∷ w) (b ∷ v) h = go (less_split b v a w h) (smaller_begins w v)
  where
    go : (b < a) ⊎ ((b ≡ a) × (order_of v w ≡ Less)) → (order_of v w ≡ Less → begins w v ≡ false) → eqb b a && begins w v ≡ false
    go (inl l) ih = rw (ne_eqb b a (λ e. omega arith))
    go (inr q) ih = rw (ih q.1) (and-false (eqb b a))

-- behind a name that is neither smaller than the prefix nor begins with it, no name begins with it
greater_begins : (w v u : List ℕ) → begins w v ≡ false → (order_of v w ≡ Less → ⊥) → order_of v u ≡ Less → begins w u ≡ false
greater_begins [] v u f h i = cc
greater_begins (a ∷ w) v [] f h i = refl
greater_begins (a ∷ w) [] (c ∷ u) f h i = absurd (h refl)
greater_begins (a ∷ w) (b ∷ v) (c ∷ u) f h i = go (ltb b a) refl (less_split b v c u i) (eqb c a) refl (greater_begins w v u)
  where
    go : (t : Bool) → ltb b a ≡ t → (b < c) ⊎ ((b ≡ c) × (order_of v u ≡ Less)) → (k : Bool) → eqb c a ≡ k
        → (begins w v ≡ false → (order_of v w ≡ Less → ⊥) → order_of v u ≡ Less → begins w u ≡ false) → k && begins w u ≡ false
    go true t x k e ih = absurd (h (rw t))
    go false t x false e ih = refl
    go false t (inl l) true e ih = absurd (omega (arith, ltb-false b a t, eqb-true c a e))
    go false t (inr (p, l)) true e ih =
        let q : b ≡ a = p ∙ eqb-true c a e in
        ih (rw (eq-eqb b a q) at f) (λ z. h (rw (t, le-ltb a b (omega arith)) z)) l

-- ---- items

-- the items up to the first whose name does not begin with the prefix
abbrev pub leading : ℕ → List ℕ → List Item → List Item
leading n prefix [] = []
leading n prefix (i ∷ l) = if (begins prefix (name_of n i)) (i ∷ leading n prefix l) []

module _ (n : ℕ) (prefix : List ℕ) where
  abbrev pub NotSmaller : List ℕ → Type 0
  NotSmaller v = order_of v prefix ≡ Less → ⊥

  -- so, of items behind such a name, none has the prefix
  none_behind : (v : List ℕ) (l : List Item) → begins prefix v ≡ false → NotSmaller v → IsAscending n v l → with_prefix n prefix l ≡ []
  none_behind v [] f h up = refl
  none_behind v (i ∷ l) f h up =
      let e : begins prefix (name_of n i) ≡ false = greater_begins prefix v (name_of n i) f h up.0 in
      rw e (none_behind (name_of n i) l e (λ z. h (less_trans v (name_of n i) prefix up.0 z)) up.1)

  leading_from : (i : Item) (l : List Item) → NotSmaller (name_of n i) → IsAscending n (name_of n i) l → leading n prefix l ≡ with_prefix n prefix l
      → leading n prefix (i ∷ l) ≡ with_prefix n prefix (i ∷ l)
  leading_from i l h up e = go (begins prefix (name_of n i)) refl
    where
      go : (t : Bool) → begins prefix (name_of n i) ≡ t → if t (i ∷ leading n prefix l) [] ≡ if t (i ∷ with_prefix n prefix l) (with_prefix n prefix l)
      go true t = ap (λ (m : List Item). i ∷ m) e
      go false t = sym (none_behind (name_of n i) l t h up)

  leading_behind : (v : List ℕ) (l : List Item) → NotSmaller v → IsAscending n v l → leading n prefix l ≡ with_prefix n prefix l
  leading_behind v [] h up = refl
  leading_behind v (i ∷ l) h up =
      let k : NotSmaller (name_of n i) = λ z. h (less_trans v (name_of n i) prefix up.0 z) in
      leading_from i l k up.1 (leading_behind (name_of n i) l k up.1)

  -- from a name that is not smaller on, the leading items are those with the prefix
  pub leading_all : (i : Item) (l : List Item) → NotSmaller (name_of n i) → IsAscending n (name_of n i) l
      → leading n prefix (i ∷ l) ≡ with_prefix n prefix (i ∷ l)
  leading_all i l h up = leading_from i l h up (leading_behind (name_of n i) l h up)

  -- of items with smaller names none has the prefix
  pub none_before : (before rest : List Item) → ((x : List Item) (i : Item) (y : List Item) → before ≡ x ++ i ∷ y → order_of (name_of n i) prefix ≡ Less)
      → with_prefix n prefix (before ++ rest) ≡ with_prefix n prefix rest
  none_before [] rest h = refl
  none_before (b ∷ before) rest h =
      rw (smaller_begins prefix (name_of n b) (h [] b before refl))
      (none_before before rest (λ x i y e. h (b ∷ x) i y (ap (λ (m : List Item). b ∷ m) e)))

  pub none_leading : (l : List Item) → ((x : List Item) (i : Item) (y : List Item) → l ≡ x ++ i ∷ y → order_of (name_of n i) prefix ≡ Less)
      → leading n prefix l ≡ []
  none_leading [] h = refl
  none_leading (i ∷ l) h = rw (smaller_begins prefix (name_of n i) (h [] i l refl))
