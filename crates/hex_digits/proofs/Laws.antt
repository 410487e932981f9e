-- Raw bytes as digits: their length, and that they are hex digits.
use mathlib.Core.Path.{◌≡◌, refl, ap}
use mathlib.Core.Bool.{Bool, true, false, and-false}
use mathlib.Core.List.{List, [], ◌∷◌, ◌++◌}
use Prim.Native.Nat.{ℕ, zero, suc, ◌+◌, ◌*◌, ◌/◌, ◌%◌, ◌<◌}
use native.Mathlib.Omega.{arith}
use lib.Dec.{ltb}
use lib.ListN.{length, get_or}
use borrow.Author.Tests.{ltb-true, ltb-false, le-leb, lt-leb}
use Rattle.parse.specs.Choice.{if}
use Rattle.class.specs.Class.{is_hex}
use Rattle.hex_digits.specs.Hex.{hex_digit, hex_text}

pub length_hex : (s : List ℕ) → length (hex_text s) ≡ 2 * length s
length_hex [] = refl
length_hex (b ∷ s) = omega (arith, length_hex s)

pub hex_append : (s t : List ℕ) → hex_text (s ++ t) ≡ hex_text s ++ hex_text t
hex_append [] t = refl
hex_append (b ∷ s) t = ap (λ l. hex_digit (b / 16) ∷ hex_digit (b % 16) ∷ l) (hex_append s t)

pub digit_is_hex : (k : ℕ) → k < 16 → is_hex (hex_digit k) ≡ true
unfolding is_hex hex_digit
digit_is_hex k h = go (ltb k 10) refl
  where
    go : (t : Bool) → ltb k 10 ≡ t → is_hex (if t (48 + k) (87 + k)) ≡ true
    go true e = simp (le-leb 48 (48 + k) (omega arith), le-leb (48 + k) 57 (omega (arith, ltb-true k 10 e)))
    go false e =
        simp (
          lt-leb (87 + k) 57 (omega (arith, ltb-false k 10 e)),
          le-leb 97 (87 + k) (omega (arith, ltb-false k 10 e)),
          le-leb (87 + k) 102 (omega arith),
          and-false,
        )

-- every byte of hex_text is a hex digit, where s are bytes
pub hex_is_hex : (s : List ℕ) → ((i : ℕ) → i < length s → get_or s i 0 < 256)
    → (i : ℕ) → i < length (hex_text s) → is_hex (get_or (hex_text s) i 0) ≡ true
hex_is_hex [] bytes i h = absurd (omega arith)
hex_is_hex (b ∷ s) bytes zero h = digit_is_hex (b / 16) (omega (arith, bytes 0 (omega arith)))
hex_is_hex (b ∷ s) bytes (suc zero) h = digit_is_hex (b % 16) (omega arith)
hex_is_hex (b ∷ s) bytes (suc (suc i)) h = hex_is_hex s (λ k l. bytes (suc k) (omega arith)) i (omega arith)
