-- Of two items of ascending names, both are the same, or one ends before the other begins and has the smaller name; so at most one has a name.
use mathlib.Core.Path.{◌≡◌, refl, ap, ◌∙◌}
use mathlib.Core.List.{List, [], ◌∷◌, ◌++◌}
use Prim.Native.Nat.{ℕ, ◌+◌, ◌≤◌}
use native.Mathlib.Omega.{arith}
use lib.ListN.{length, length-append}
use Rattle.class.specs.Class.{Classes}
use Rattle.compare.specs.Order.{order_of}
use Rattle.compare.proofs.Orders.{less_trans, order_refl}
use Rattle.iter.specs.Items.{Item, items, bytes_of, name_of}
use Rattle.checks.specs.Passes.{IsAscending}
use Rattle.iter.specs.Stands.{Stands}
use Rattle.std.specs.declared.cmp.Ordering.TheVariants.{Less}

module _ (n : ℕ) where
  above_all : (last : List ℕ) (before : List Item) (it : Item) (after : List Item) → IsAscending n last (before ++ it ∷ after)
      → order_of last (name_of n it) ≡ Less
  above_all last [] it after up = up.0
  above_all last (b ∷ before) it after up =
      less_trans last (name_of n b) (name_of n it) up.0 (above_all (name_of n b) before it after up.1)

  -- the item i, which begins at a place a, and the item j, which begins at b
  pub data Apart (a : ℕ) (i : Item) (b : ℕ) (j : Item) : Type 0 where
    same : a ≡ b → i ≡ j → Apart a i b j
    first : a + length i.bytes ≤ b → order_of (name_of n i) (name_of n j) ≡ Less → Apart a i b j
    second : b + length j.bytes ≤ a → order_of (name_of n j) (name_of n i) ≡ Less → Apart a i b j

  apart_in : (last : List ℕ) (x y : List Item) (i j : Item) (v w l : List Item) → IsAscending n last l → l ≡ x ++ i ∷ v → l ≡ y ++ j ∷ w
      → Apart (length (bytes_of x)) i (length (bytes_of y)) j
  apart_in last [] [] i j v w l up p q = same refl (cc)
  apart_in last [] (c ∷ y) i j v w l up p q =
      let e : c ≡ i = cc in
      let u : IsAscending n last (c ∷ (y ++ j ∷ w)) = rw q at up in
      first (omega (arith, length-append c.bytes (bytes_of y), ap (λ (k : Item). length k.bytes) e)) (rw e at (above_all (name_of n c) y j w u.1))
  apart_in last (b ∷ x) [] i j v w l up p q =
      let e : b ≡ j = cc in
      let u : IsAscending n last (b ∷ (x ++ i ∷ v)) = rw p at up in
      second (omega (arith, length-append b.bytes (bytes_of x), ap (λ (k : Item). length k.bytes) e)) (rw e at (above_all (name_of n b) x i v u.1))
  apart_in last (b ∷ x) (c ∷ y) i j v w l up p q =
      let u : IsAscending n last (b ∷ (x ++ i ∷ v)) = rw p at up in
      go (apart_in (name_of n b) x y i j v w (x ++ i ∷ v) u.1 refl (cc))
    where
      k : length b.bytes ≡ length c.bytes
      k = let e : b ≡ c = cc in ap (λ (z : Item). length z.bytes) e

      here : length (b.bytes ++ bytes_of x) ≡ length b.bytes + length (bytes_of x)
      here = length-append b.bytes (bytes_of x)

      there : length (c.bytes ++ bytes_of y) ≡ length c.bytes + length (bytes_of y)
      there = length-append c.bytes (bytes_of y)

      go : Apart (length (bytes_of x)) i (length (bytes_of y)) j → Apart (length (b.bytes ++ bytes_of x)) i (length (c.bytes ++ bytes_of y)) j
      go (same h e) = same (omega (arith, here, there, k)) e
      go (first h e) = first (omega (arith, here, there, k)) e
      go (second h e) = second (omega (arith, here, there, k)) e

  pub apart : (byte : Classes) (s : List ℕ) {a b : ℕ} {i j : Item} → IsAscending n [] (items byte n s) → Stands byte n s a i → Stands byte n s b j
      → Apart a i b j
  apart byte s {a} {b} {i} {j} up x y =
      rw (x.here, y.here) at (apart_in [] x.before y.before i j x.after y.after (items byte n s) up x.all y.all)

  not_less : (v w name : List ℕ) → v ≡ name → w ≡ name → order_of v w ≡ Less → ⊥
  not_less v w name p q e =
      let z : order_of v w ≡ order_of name name = ap (λ (x : List ℕ). order_of x w) p ∙ ap (order_of name) q in
      let x : ◌≡◌ {A = ℕ} 0 1 = cc (order_refl name) in
      omega arith

  pub one_named : {byte : Classes} {s name : List ℕ} {a b : ℕ} {i j : Item} → IsAscending n [] (items byte n s) → Stands byte n s a i → name_of n i ≡ name
      → Stands byte n s b j → name_of n j ≡ name → (a ≡ b) × (i ≡ j)
  one_named {byte} {s} {name} {a} {b} {i} {j} up x p y q = go (apart byte s up x y)
    where
      go : Apart a i b j → (a ≡ b) × (i ≡ j)
      go (same e h) = (e, h)
      go (first h e) = absurd (not_less (name_of n i) (name_of n j) name p q e)
      go (second h e) = absurd (not_less (name_of n j) (name_of n i) name q p e)
