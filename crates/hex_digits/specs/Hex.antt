-- Raw bytes as hex digits.
use Rattle.std.specs.Prelude.{List, [], ◌∷◌, ℕ, ◌+◌, ◌/◌, ◌%◌, ltb}
use Rattle.parse.specs.Choice.{if}

-- the sixteen lower-case digits: 0-9 are 48 to 57, a-f are 97 to 102
unfoldable pub hex_digit : ℕ → ℕ
hex_digit k = if (ltb k 10) (48 + k) (87 + k)

-- raw bytes as hex digits, the high half first
abbrev pub hex_text : List ℕ → List ℕ
hex_text [] = []
hex_text (b ∷ s) = hex_digit (b / 16) ∷ hex_digit (b % 16) ∷ hex_text s
