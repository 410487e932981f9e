-- What is told of eight bytes: by their number, and what it says of each of them.
use mathlib.Core.Path.{◌≡◌, refl, sym, ap, ◌∙◌}
use mathlib.Core.Bool.{Bool, true, false}
use mathlib.Core.List.{List, [], ◌∷◌, map, reverse}
use Prim.Native.Nat.{ℕ, zero, suc, ◌+◌, ◌-◌, ◌/◌, ◌^◌, ◌≤◌, ◌<◌}
use native.Mathlib.Omega.{arith}
use lib.Bits.{bit_and, and_shr}
use lib.Count.{count_trailing_zeros}
use lib.ListN.{length, get_or, drop, length-reverse}
use lib.Seq.{get_or-drop, get_or-take}
use borrow.Author.Tests.{leb-true, ltb-false}
use Rattle.std.specs.declared.option.Option.TheVariants.{Some, None}
use Rattle.word.specs.Choice.{if}
use Rattle.word.specs.Number.{Bytes, digits, eight_at, eight}
use Rattle.word.specs.Low.{is_low, first_low, any_high, low_of, first_low_at, last_low_at}
use Rattle.word.proofs.Bytes.{length_eight, get_d_reverse}
use Rattle.word.proofs.Masks.{each, high, mask, none_high, high_none, marked}
use Rattle.word.proofs.Zeros.{bits, first_mark}

-- ---- by the number of eight digits

-- 128 as each of eight digits, and 114
abbrev pub highs : ℕ
highs = 9259542123273814144

abbrev pub lifts : ℕ
lifts = 8246779703540740722

-- a number whose digits have no high bit has its highest bit clear
pub half : (x : ℕ) → x < 2 ^ 64 → bit_and x highs ≡ 0 → x < 2 ^ 63
half x h e = go (x / 2 ^ 63) refl
  where
    top : bit_and (x / 2 ^ 63) 1 ≡ 0
    top = sym (and_shr x highs 63) ∙ ap (λ (y : ℕ). y / 2 ^ 63) e

    go : (t : ℕ) → x / 2 ^ 63 ≡ t → x < 2 ^ 63
    go zero q = omega arith
    go (suc zero) q = absurd (let z : ◌≡◌ {A = ℕ} 1 0 = ap (λ (y : ℕ). bit_and y 1) (sym q) ∙ top in omega arith)
    go (suc (suc t)) q = absurd (omega arith)

module _ (s : List ℕ) (eight-long : length s ≡ 8) (all : Bytes s) where
  masked : bit_and (digits s) highs ≡ digits (map high s)
  masked = ap (λ (n : ℕ). bit_and (digits s) (each 128 n)) (sym eight-long) ∙ mask s all

  pub told_high : (bit_and (digits s) highs ≡ 0 → ⊥) → low_of s ≡ None
  told_high h = go (any_high s) refl
    where
      go : (t : Bool) → any_high s ≡ t → if t None (Some (first_low s)) ≡ None
      go true e = refl
      go false e = absurd (h (masked ∙ none_high s e))

  pub told_low : bit_and (digits s) highs ≡ 0 → Some (count_trailing_zeros 64 (highs - bit_and (digits s + lifts) highs) / 8) ≡ low_of s
  told_low h =
      let none = high_none s (sym masked ∙ h) in
      let first : count_trailing_zeros 64 (highs - bit_and (digits s + lifts) highs) / 8 ≡ first_low s =
      ap (λ (n : ℕ). count_trailing_zeros (bits n) (each 128 n - bit_and (digits s + each 114 n) (each 128 n)) / 8) (sym eight-long)
      ∙ ap (λ (x : ℕ). count_trailing_zeros (bits (length s)) x / 8) (marked s none)
      ∙ first_mark s in
      ap Some first ∙ rw none

-- ---- what it says of each byte

-- those before the first low one are not low
before_low : (s : List ℕ) (k : ℕ) → k < first_low s → 14 ≤ get_or s k 0
before_low [] k h = absurd (omega arith)
before_low (b ∷ s) zero h = go (is_low b) refl h
  where
    go : (t : Bool) → is_low b ≡ t → 0 < if t 0 (suc (first_low s)) → 14 ≤ b
    go true e l = absurd (omega arith)
    go false e l = ltb-false b 14 e
before_low (b ∷ s) (suc k) h = before_low s k (go (is_low b) h)
  where
    go : (t : Bool) → suc k < if t 0 (suc (first_low s)) → k < first_low s
    go true l = absurd (omega arith)
    go false l = omega arith

low_within : (s : List ℕ) → first_low s ≤ length s
low_within [] = omega arith
low_within (b ∷ s) = go (is_low b) (low_within s)
  where
    go : (t : Bool) → first_low s ≤ length s → if t 0 (suc (first_low s)) ≤ suc (length s)
    go true h = omega arith
    go false h = omega arith

-- the same where eight are left and none is above 127
run_of : (left : Bool) (l : List ℕ) {n : ℕ} → if left (low_of l) None ≡ Some n → (left ≡ true) × (n ≤ length l) × ((k : ℕ) → k < n → 14 ≤ get_or l k 0)
run_of left l {n} e = go left (any_high l) refl e
  where
    go : (t v : Bool) → left ≡ t → if t (if v None (Some (first_low l))) None ≡ Some n → (left ≡ true) × (n ≤ length l) × ((k : ℕ) → k < n → 14 ≤ get_or l k 0)
    go true true p q = absurd (let z : ◌≡◌ {A = ℕ} 0 1 = cc in omega arith)
    go true false p q = let z : first_low l ≡ n = cc in (p, omega (arith, low_within l), λ k m. before_low l k (omega arith))
    go false v p q = absurd (let z : ◌≡◌ {A = ℕ} 0 1 = cc in omega arith)

module _ (s : List ℕ) (at : ℕ) where
  inside : eight_at s at ≡ true → at + 8 ≤ length s
  inside e = leb-true (at + 8) (length s) e

  byte_at_lem : (k : ℕ) → k < 8 → get_or (eight s at) k 0 ≡ get_or s (at + k) 0
  byte_at_lem k h = get_or-take 8 (drop at s) k 0 h ∙ get_or-drop at s k 0

  -- none of the n bytes from the place on is low
  pub first_low_run : {n : ℕ} → first_low_at s at ≡ Some n → (at + 8 ≤ length s) × (n ≤ 8) × ((k : ℕ) → k < n → 14 ≤ get_or s (at + k) 0)
  unfolding first_low_at
  first_low_run {n} e =
      let (left, within, low) = run_of (eight_at s at) (eight s at) e in
      let few : n ≤ 8 = omega (arith, length_eight s at (inside left)) in
      (inside left, few, λ k m. omega (arith, low k m, byte_at_lem k (omega arith)))

  -- none of the last n of the eight bytes is low
  pub last_low_run : {n : ℕ} → last_low_at s at ≡ Some n → (at + 8 ≤ length s) × (n ≤ 8) × ((k : ℕ) → k < 8 → 8 ≤ k + n → 14 ≤ get_or s (at + k) 0)
  unfolding last_low_at
  last_low_run {n} e =
      let (left, within, low) = run_of (eight_at s at) (reverse (eight s at)) e in
      let long = length_eight s at (inside left) in
      let few : n ≤ 8 = omega (arith, length-reverse (eight s at)) in
      (inside left, few, λ k m far. omega (arith, low (7 - k) (omega arith), get_d_reverse (eight s at) k (7 - k) (omega arith), byte_at_lem k m))
