-- Low bytes: those below 14, as line ends are.
use Rattle.std.specs.Prelude.{◌≡◌, Bool, false, ◌||◌, List, [], ◌∷◌, reverse, ℕ, suc, ltb, length, Option, Some, None}
use Rattle.word.specs.Choice.{if}
use Rattle.word.specs.Number.{Bytes, digits, eight_at, eight}

abbrev pub is_low : ℕ → Bool
is_low b = ltb b 14

-- how many bytes stand before the first low one: all where none is low
abbrev pub first_low : List ℕ → ℕ
first_low [] = 0
first_low (b ∷ s) = if (is_low b) 0 (suc (first_low s))

-- whether one of the bytes is above 127
abbrev pub any_high : List ℕ → Bool
any_high [] = false
any_high (b ∷ s) = ltb 127 b || any_high s

-- what is told of eight bytes: how many stand before the first low one, where none is above 127
abbrev pub low_of : List ℕ → Option ℕ
low_of s = if (any_high s) None (Some (first_low s))

-- the same of the eight bytes from a place on, where so many are left
unfoldable pub first_low_at : List ℕ → ℕ → Option ℕ
first_low_at s at = if (eight_at s at) (low_of (eight s at)) None

-- and from their other end: how many stand behind the last low one
unfoldable pub last_low_at : List ℕ → ℕ → Option ℕ
last_low_at s at = if (eight_at s at) (low_of (reverse (eight s at))) None

-- that r is told of the number x: it is told of the eight bytes that x has as its digits
abbrev pub LowDigit : ℕ → Option ℕ → Type 0
LowDigit x r = (s : List ℕ) → length s ≡ 8 → Bytes s → x ≡ digits s → r ≡ low_of s
