-- Numbers of digits to the base 256: their bound, and the two ends that they are read from.
use mathlib.Core.Path.{◌≡◌, refl, sym, ap, ◌∙◌}
use mathlib.Core.List.{List, [], ◌∷◌, reverse, reverse_aux}
use Prim.Native.Nat.{ℕ, suc, ◌+◌, ◌*◌, ◌^◌, ◌≤◌, ◌<◌}
use native.Mathlib.Nat.{mul-add, mul_assoc, mul_comm, mul-zero, suc-mul, pow-suc, mul-le-mul_right}
use native.Mathlib.Omega.{arith}
use lib.ListN.{length, get_or, drop, length-drop, drop_of_length-le}
use lib.Seq.{drop-cons}
use Rattle.std.specs.Int.{w64, from_le_bytes, from_be_bytes}
use Rattle.word.specs.Number.{Bytes, digits, number_of}

-- one digit more
power : (n : ℕ) → 256 ^ suc n ≡ 256 * 256 ^ n
power n = pow-suc 256 n ∙ mul_comm (256 ^ n) 256

-- read from the other end, the first byte is the lowest digit
behind : (s r : List ℕ) → digits (reverse_aux s r) ≡ number_of s + 256 ^ length s * digits r
behind [] r = omega arith
behind (b ∷ s) r =
    let p = 256 ^ length s in
    let d = digits r in
    let first : p * (b + 256 * d) ≡ p * b + p * (256 * d) = mul-add p b (256 * d) in
    let rest : p * (256 * d) ≡ 256 ^ suc (length s) * d = sym (mul_assoc p 256 d) ∙ ap (λ (x : ℕ). x * d) (sym (pow-suc 256 (length s))) in
    omega (arith, behind s (b ∷ r), first, rest, mul_comm p b)

pub number_reverse : (s : List ℕ) → digits (reverse s) ≡ number_of s
number_reverse s = omega (arith, behind s [], mul-zero (256 ^ length s))

-- as many digits hold no more
pub number_lt : (s : List ℕ) → Bytes s → number_of s < 256 ^ length s
number_lt [] all = omega arith
number_lt (b ∷ s) all =
    let p = 256 ^ length s in
    let more : suc b * p ≤ 256 * p = mul-le-mul_right p (all 0) in
    omega (arith, more, number_lt s (λ k. all (suc k)), suc-mul b p, power (length s))

-- ---- two numbers of as many digits stand to each other as their first digits do that differ

-- the smaller first digit makes the smaller number
pub number_first_lt : (a b : ℕ) (s t : List ℕ) → length s ≡ length t → Bytes s → a < b → number_of (a ∷ s) < number_of (b ∷ t)
number_first_lt a b s t same all h =
    let p = 256 ^ length s in
    let more : suc a * p ≤ b * p = mul-le-mul_right p h in
    let scale : b * p ≡ b * 256 ^ length t = ap (λ (n : ℕ). b * 256 ^ n) same in
    omega (arith, more, scale, number_lt s all, suc-mul a p)

-- the same first digit leaves it to the others
pub number_same_first : (b : ℕ) (s t : List ℕ) → length s ≡ length t → number_of (b ∷ s) + number_of t ≡ number_of (b ∷ t) + number_of s
number_same_first b s t same =
    let scale : b * 256 ^ length s ≡ b * 256 ^ length t = ap (λ (n : ℕ). b * 256 ^ n) same in
    omega (arith, scale)

-- ---- eight bytes, as std reads them

-- each digit in its turn
first_digit : (s : List ℕ) (i : ℕ) → i < length s → digits (drop i s) ≡ get_or s i 0 + 256 * digits (drop (suc i) s)
first_digit s i h = rw (drop-cons s i 0 h)

first_highest : (s : List ℕ) (i n : ℕ) → i + suc n ≡ length s → number_of (drop i s) ≡ get_or s i 0 * 256 ^ n + number_of (drop (suc i) s)
first_highest s i n h =
    let left : length (drop (suc i) s) ≡ n = omega (arith, length-drop (suc i) s) in
    rw (drop-cons s i 0 (omega arith), left)

module _ (s : List ℕ) (long : length s ≡ 8) where
  none_behind : drop 8 s ≡ []
  none_behind = let most : length s ≤ 8 = omega arith in drop_of_length-le s most

  pub le_digits : from_le_bytes w64 s ≡ digits s
  le_digits =
      let end : digits (drop 8 s) ≡ 0 = ap digits none_behind in
      let at = λ (i : ℕ) (h : i < 8). first_digit s i (omega arith) in
      omega (arith, at 0 (omega arith), at 1 (omega arith), at 2 (omega arith), at 3 (omega arith), at 4 (omega arith), at 5 (omega arith), at 6 (omega arith), at 7 (omega arith))

  pub be_number : from_be_bytes w64 s ≡ number_of s
  be_number =
      let end : number_of (drop 8 s) ≡ 0 = ap number_of none_behind in
      let at = λ (i n : ℕ) (h : i + suc n ≡ 8). first_highest s i n (omega arith) in
      omega (arith, at 0 7 refl, at 1 6 refl, at 2 5 refl, at 3 4 refl, at 4 3 refl, at 5 2 refl, at 6 1 refl, at 7 0 refl)
