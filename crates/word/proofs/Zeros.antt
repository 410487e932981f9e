-- The zeros below a number's lowest set bit, eight to a digit.
use mathlib.Core.Path.{◌≡◌, ap, ◌∙◌}
use mathlib.Core.Bool.{Bool, true, false}
use mathlib.Core.List.{List, [], ◌∷◌, map}
use Prim.Native.Nat.{ℕ, zero, suc, ◌+◌, ◌*◌, ◌/◌, ◌%◌, ◌^◌}
use native.Mathlib.Nat.{pow-suc, mul_assoc, mul_comm}
use native.Mathlib.Omega.{arith}
use lib.Count.{count_trailing_zeros, trailing_of_zero}
use lib.ListN.{length}
use Rattle.word.specs.Choice.{if}
use Rattle.word.specs.Number.{digits}
use Rattle.word.specs.Low.{is_low, first_low}
use Rattle.word.proofs.Masks.{mark}

even : (k m : ℕ) → count_trailing_zeros (suc k) (2 * m) ≡ suc (count_trailing_zeros k m)
unfolding count_trailing_zeros
even k m =
    let low : 2 * m % 2 ≡ 0 = omega arith in
    let rest : 2 * m / 2 ≡ m = omega arith in
    rw (low, rest)

odd : (k m : ℕ) → count_trailing_zeros (suc k) (2 * m + 1) ≡ 0
unfolding count_trailing_zeros
odd k m =
    let low : (2 * m + 1) % 2 ≡ 1 = omega arith in
    rw low

-- j more, such that it computes
abbrev pub more : ℕ → ℕ → ℕ
more zero k = k
more (suc j) k = suc (more j k)

shifted : (j k m : ℕ) → count_trailing_zeros (more j k) (2 ^ j * m) ≡ more j (count_trailing_zeros k m)
shifted zero k m = ap (count_trailing_zeros k) (omega arith)
shifted (suc j) k m =
    let double : 2 ^ suc j * m ≡ 2 * (2 ^ j * m) = ap (λ (x : ℕ). x * m) (pow-suc 2 j ∙ mul_comm (2 ^ j) 2) ∙ mul_assoc 2 (2 ^ j) m in
    rw double (even (more j k) (2 ^ j * m) ∙ ap suc (shifted j k m))

-- the bits of n digits
abbrev pub bits : ℕ → ℕ
bits zero = zero
bits (suc n) = more 8 (bits n)

-- a digit of 128 at the lowest place, and one of 0
stop : (k m : ℕ) → count_trailing_zeros (more 8 k) (128 + 256 * m) ≡ 7
stop k m =
    let q : 128 + 256 * m ≡ 2 ^ 7 * (2 * m + 1) = omega arith in
    ap (count_trailing_zeros (more 8 k)) q ∙ shifted 7 (suc k) (2 * m + 1) ∙ ap (more 7) (odd k m)

go_on : (k m : ℕ) → count_trailing_zeros (more 8 k) (0 + 256 * m) ≡ more 8 (count_trailing_zeros k m)
go_on k m =
    let q : 0 + 256 * m ≡ 2 ^ 8 * m = omega arith in
    ap (count_trailing_zeros (more 8 k)) q ∙ shifted 8 k m

-- eight for each byte before the first low one
pub first_mark : (s : List ℕ) → count_trailing_zeros (bits (length s)) (digits (map mark s)) / 8 ≡ first_low s
first_mark [] = ap (λ (x : ℕ). x / 8) (trailing_of_zero 0)
first_mark (b ∷ s) = go (is_low b) (first_mark s)
  where
    m : ℕ
    m = digits (map mark s)

    k : ℕ
    k = bits (length s)

    go : (t : Bool) → count_trailing_zeros k m / 8 ≡ first_low s → count_trailing_zeros (more 8 k) (if t 128 0 + 256 * m) / 8 ≡ if t 0 (suc (first_low s))
    go true rest = ap (λ (x : ℕ). x / 8) (stop k m)
    go false rest = ap (λ (x : ℕ). x / 8) (go_on k m) ∙ omega arith
