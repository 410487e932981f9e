-- A length by its groups: what it is where one of them can't be read, or where all of them can, and back from what it is to its groups.
use mathlib.Core.Path.{◌≡◌, refl, sym, ap, ◌∙◌}
use mathlib.Core.Bool.{Bool, true, false, ◌&&◌, and-false, and-eq-true_iff}
use mathlib.Core.List.{List}
use Prim.Native.Nat.{ℕ, ◌+◌, ◌*◌, ◌%◌, ◌≤◌, ◌<◌}
use native.Mathlib.Omega.{arith}
use lib.Dec.{ltb}
use lib.ListN.{get_or, get_or-eq_default, length, drop, length-drop}
use lib.Seq.{get_or-drop}
use borrow.Author.Tests.{ltb-true, ltb-false, lt-ltb, le-ltb}
use Rattle.parse.specs.Choice.{if}
use Rattle.length.specs.Length.{length_at, length_of, measured}
use Rattle.std.specs.declared.option.Option.TheVariants.{None}

module _ (s : List ℕ) (at : ℕ) where
  pub no_group : length s ≤ at → length_at s at ≡ None
  unfolding length_at
  no_group h = rw (le-ltb at (length s) h)

  module _ (inside : at < length s) where
    pub one_group : get_or s at 0 < 128 → length_at s at ≡ length_of (get_or s at 0) (at + 1)
    unfolding length_at
    one_group h = rw (lt-ltb at (length s) inside, lt-ltb (get_or s at 0) 128 h)

    module _ (more : 128 ≤ get_or s at 0) where
      pub second_zero : get_or s (at + 1) 0 ≡ 0 → length_at s at ≡ None
      unfolding length_at
      second_zero h = rw (lt-ltb at (length s) inside, le-ltb (get_or s at 0) 128 more, h)

      pub second_missing : length s ≤ at + 1 → length_at s at ≡ None
      second_missing h = second_zero (get_or-eq_default s 0 h)

      pub third_group : 128 ≤ get_or s (at + 1) 0 → length_at s at ≡ None
      unfolding length_at
      third_group h = rw (lt-ltb at (length s) inside, le-ltb (get_or s at 0) 128 more, le-ltb (get_or s (at + 1) 0) 128 h, and-false)

      pub two_groups : (get_or s (at + 1) 0 ≡ 0 → ⊥) → get_or s (at + 1) 0 < 128
          → length_at s at ≡ length_of (get_or s at 0 % 128 + 128 * get_or s (at + 1) 0) (at + 1 + 1)
      unfolding length_at
      two_groups z h =
          rw (lt-ltb at (length s) inside, le-ltb (get_or s at 0) 128 more, lt-ltb 0 (get_or s (at + 1) 0) (omega arith), lt-ltb (get_or s (at + 1) 0) 128 h)

-- ---- a length is one group or two

data Groups (s : List ℕ) (at len from : ℕ) : Type 0 where
  one : at < length s → get_or s at 0 < 128 → get_or s at 0 ≡ len → at + 1 ≡ from → Groups s at len from
  two : at < length s → 128 ≤ get_or s at 0 → 0 < get_or s (at + 1) 0 → get_or s (at + 1) 0 < 128
      → get_or s at 0 % 128 + 128 * get_or s (at + 1) 0 ≡ len → at + 1 + 1 ≡ from → Groups s at len from

value_same : {a b c d : ℕ} → length_of a c ≡ length_of b d → a ≡ b
value_same e = ap (λ o. measured o (λ value next. value) 0) e

next_same : {a b c d : ℕ} → length_of a c ≡ length_of b d → c ≡ d
next_same e = ap (λ o. measured o (λ value next. next) 0) e

groups : (s : List ℕ) (at : ℕ) {len from : ℕ} → length_at s at ≡ length_of len from → Groups s at len from
unfolding length_at
groups s at {len} {from} e =
    go (ltb at (length s)) refl (ltb (get_or s at 0) 128) refl (ltb 0 (get_or s (at + 1) 0) && ltb (get_or s (at + 1) 0) 128) refl e
  where
    go : (a : Bool) → ltb at (length s) ≡ a → (b : Bool) → ltb (get_or s at 0) 128 ≡ b
        → (c : Bool) → (ltb 0 (get_or s (at + 1) 0) && ltb (get_or s (at + 1) 0) 128) ≡ c
        → if a (if b (length_of (get_or s at 0) (at + 1)) (if c (length_of (get_or s at 0 % 128 + 128 * get_or s (at + 1) 0) (at + 1 + 1)) None)) None ≡ length_of len from
        → Groups s at len from
    go false o b p c q e = absurd (let z : ◌≡◌ {A = ℕ} 0 1 = cc in omega arith)
    go true o true p c q e = one (ltb-true at (length s) o) (ltb-true (get_or s at 0) 128 p) (value_same e) (next_same e)
    go true o false p false q e = absurd (let z : ◌≡◌ {A = ℕ} 0 1 = cc in omega arith)
    go true o false p true q e =
        let (some, small) = (and-eq-true_iff (ltb 0 (get_or s (at + 1) 0)) (ltb (get_or s (at + 1) 0) 128)).0 q in
        two (ltb-true at (length s) o) (omega (arith, ltb-false (get_or s at 0) 128 p)) (ltb-true 0 (get_or s (at + 1) 0) some) (ltb-true (get_or s (at + 1) 0) 128 small) (value_same e) (next_same e)

-- two groups of seven bits, and the place behind them
pub length_small : (s : List ℕ) (at : ℕ) {len from : ℕ} → length_at s at ≡ length_of len from → (len < 16384) × (at < from) × (from ≤ at + 2)
length_small s at {len} {from} e = go (groups s at e)
  where
    go : Groups s at len from → (len < 16384) × (at < from) × (from ≤ at + 2)
    go (one i h l f) = (omega arith, omega arith, omega arith)
    go (two i h some k l f) = (omega arith, omega arith, omega arith)

module _ (list : List ℕ) (place : ℕ) {len from : ℕ} where
  -- the length reads the same in the whole list and in its part from the edit's place on
  pub length_there : length_at (drop place list) 1 ≡ length_of len from → length_at list (place + 1) ≡ length_of len (place + from)
  length_there e = go (groups (drop place list) 1 e)
    where
      low : get_or (drop place list) 1 0 ≡ get_or list (place + 1) 0
      low = get_or-drop place list 1 0

      high : get_or (drop place list) (1 + 1) 0 ≡ get_or list (place + 1 + 1) 0
      high = let z : place + (1 + 1) ≡ place + 1 + 1 = omega arith in get_or-drop place list (1 + 1) 0 ∙ ap (λ (k : ℕ). get_or list k 0) z

      alike : {a b c d : ℕ} → a ≡ b → c ≡ d → length_of a c ≡ length_of b d
      alike p q = λ i. length_of (p i) (q i)

      go : Groups (drop place list) 1 len from → length_at list (place + 1) ≡ length_of len (place + from)
      go (one i h l f) =
          one_group list (place + 1) (omega (arith, length-drop place list)) (omega (arith, low)) ∙ alike (sym low ∙ l) (omega arith)
      go (two i h s k l f) =
          two_groups list (place + 1) (omega (arith, length-drop place list)) (omega (arith, low)) (omega (arith, high)) (omega (arith, high))
          ∙ alike (omega (arith, low, high)) (omega arith)
