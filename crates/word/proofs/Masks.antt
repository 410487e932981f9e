-- The high bits of a number's digits, and what they say once 114 is added to each digit.
use mathlib.Core.Path.{◌≡◌, refl, sym, ap, ap₂, ◌∙◌}
use mathlib.Core.Bool.{Bool, true, false, ◌||◌, false≢true}
use mathlib.Core.List.{List, [], ◌∷◌, map}
use Prim.Native.Nat.{ℕ, zero, suc, ◌+◌, ◌-◌, ◌*◌, ◌^◌, ◌≤◌, ◌<◌}
use native.Mathlib.Omega.{arith}
use lib.Dec.{ltb}
use lib.Bits.{bit_and, and_block, and_comm, and_zero_r, and_shifted}
use lib.ListN.{length, length-map}
use borrow.Author.Tests.{ltb-true, ltb-false}
use Rattle.word.specs.Choice.{if}
use Rattle.word.specs.Number.{Bytes, digits}
use Rattle.word.specs.Low.{is_low, any_high}
use Rattle.word.proofs.Bytes.{bytes_nil, bytes_cons}

-- the number whose n digits are all c
abbrev pub each : ℕ → ℕ → ℕ
each c zero = 0
each c (suc n) = c + 256 * each c n

-- ---- the mask of high bits

-- a byte's high bit
abbrev pub high : ℕ → ℕ
high b = if (ltb 127 b) 128 0

and_byte : (b : ℕ) → b < 256 → bit_and b 128 ≡ high b
and_byte b h = go (ltb 127 b) refl
  where
    go : (t : Bool) → ltb 127 b ≡ t → bit_and b 128 ≡ if t 128 0
    go true e =
        let l = ltb-true 127 b e in
        let q : b ≡ 1 * 2 ^ 7 + (b - 128) = omega arith in
        ap (λ (x : ℕ). bit_and x 128) q ∙ and_block 7 1 1 (b - 128) 0 (omega arith) (omega arith) ∙ ap (λ (x : ℕ). 128 + x) (and_zero_r (b - 128))
    go false e =
        let l = ltb-false 127 b e in
        and_comm b 128 ∙ and_shifted 1 7 b (omega arith)

pub mask : (s : List ℕ) → Bytes s → bit_and (digits s) (each 128 (length s)) ≡ digits (map high s)
mask [] all = refl
mask (b ∷ s) all =
    let m = each 128 (length s) in
    let x : digits (b ∷ s) ≡ digits s * 2 ^ 8 + b = omega arith in
    let y : 128 + 256 * m ≡ m * 2 ^ 8 + 128 = omega arith in
    let block = and_block 8 (digits s) m b 128 (all 0) (omega arith) in
    ap₂ bit_and x y ∙ omega (arith, block, and_byte b (all 0), mask s (λ k. all (suc k)))

-- it takes nothing exactly where no byte is high
pub none_high : (s : List ℕ) → any_high s ≡ false → digits (map high s) ≡ 0
none_high [] e = refl
none_high (b ∷ s) e = go (ltb 127 b) e (none_high s)
  where
    go : (t : Bool) → (t || any_high s) ≡ false → (any_high s ≡ false → digits (map high s) ≡ 0) → if t 128 0 + 256 * digits (map high s) ≡ 0
    go true q rest = absurd (false≢true (sym q))
    go false q rest = omega (arith, rest q)

pub high_none : (s : List ℕ) → digits (map high s) ≡ 0 → any_high s ≡ false
high_none [] e = refl
high_none (b ∷ s) e = go (ltb 127 b) e (high_none s)
  where
    go : (t : Bool) → if t 128 0 + 256 * digits (map high s) ≡ 0 → (digits (map high s) ≡ 0 → any_high s ≡ false) → (t || any_high s) ≡ false
    go true q rest = absurd (omega arith)
    go false q rest = rest (omega arith)

-- ---- 114 more on each digit

pub raised : (s : List ℕ) → digits s + each 114 (length s) ≡ digits (map (λ b. b + 114) s)
raised [] = refl
raised (b ∷ s) = omega (arith, raised s)

-- a byte's mark, 128 where it is low
abbrev pub mark : ℕ → ℕ
mark b = if (is_low b) 128 0

-- where no byte is high
data NoneHigh : List ℕ → Type 0 where
  none : NoneHigh []
  next : {b : ℕ} {s : List ℕ} → b ≤ 127 → NoneHigh s → NoneHigh (b ∷ s)

all_below : (s : List ℕ) → any_high s ≡ false → NoneHigh s
all_below [] e = none
all_below (b ∷ s) e = go (ltb 127 b) refl e (all_below s)
  where
    go : (t : Bool) → ltb 127 b ≡ t → (t || any_high s) ≡ false → (any_high s ≡ false → NoneHigh s) → NoneHigh (b ∷ s)
    go true p q rest = absurd (false≢true (sym q))
    go false p q rest = next (ltb-false 127 b p) (rest q)

raised_bytes : (s : List ℕ) → NoneHigh s → Bytes (map (λ b. b + 114) s)
raised_bytes [] none = bytes_nil
raised_bytes (b ∷ s) (next h rest) = bytes_cons (b + 114) (map (λ b. b + 114) s) (omega arith) (raised_bytes s rest)

-- a raised digit has its high bit, or its byte is low
either : (b : ℕ) → b ≤ 127 → high (b + 114) + mark b ≡ 128
either b h = go (ltb 127 (b + 114)) (is_low b) refl refl
  where
    go : (t v : Bool) → ltb 127 (b + 114) ≡ t → is_low b ≡ v → if t 128 0 + if v 128 0 ≡ 128
    go true true p q = absurd (omega (arith, ltb-true 127 (b + 114) p, ltb-true b 14 q))
    go true false p q = refl
    go false true p q = refl
    go false false p q = absurd (omega (arith, ltb-false 127 (b + 114) p, ltb-false b 14 q))

marks : (s : List ℕ) → NoneHigh s → digits (map high (map (λ b. b + 114) s)) + digits (map mark s) ≡ each 128 (length s)
marks [] none = refl
marks (b ∷ s) (next h rest) = omega (arith, either b h, marks s rest)

-- so the mask less the raised digits' high bits is the marks
pub marked : (s : List ℕ) → any_high s ≡ false
    → each 128 (length s) - bit_and (digits s + each 114 (length s)) (each 128 (length s)) ≡ digits (map mark s)
marked s e =
    let up = map (λ b. b + 114) s in
    let below = all_below s e in
    let long : length up ≡ length s = length-map s (λ b. b + 114) in
    let seen : bit_and (digits up) (each 128 (length s)) ≡ digits (map high up) = rw (← long) (mask up (raised_bytes s below)) in
    rw (raised s, seen) (omega (arith, marks s below))
