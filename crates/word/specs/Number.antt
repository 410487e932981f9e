-- Bytes read as one number, a byte a digit to the base 256.
use Rattle.std.specs.Prelude.{Bool, List, [], ◌∷◌, ℕ, ◌+◌, ◌*◌, ◌^◌, ◌<◌, leb, length, get_or, take, drop}
use Rattle.word.specs.Choice.{if}

-- that every one is a byte; behind the end stands 0, which is one
abbrev pub Bytes : List ℕ → Type 0
Bytes s = (k : ℕ) → get_or s k 0 < 256

-- the first byte the lowest digit
abbrev pub digits : List ℕ → ℕ
digits [] = 0
digits (b ∷ s) = b + 256 * digits s

-- the first byte the highest digit, so that numbers of as many bytes stand to each other as the bytes do
abbrev pub number_of : List ℕ → ℕ
number_of [] = 0
number_of (b ∷ s) = b * 256 ^ length s + number_of s

-- whether eight bytes are left from a place on
abbrev pub eight_at : List ℕ → ℕ → Bool
eight_at s at = leb (at + 8) (length s)

-- the eight bytes from a place on
abbrev pub eight : List ℕ → ℕ → List ℕ
eight s at = take 8 (drop at s)

-- their number, and 0 where fewer are left
unfoldable pub number_at : List ℕ → ℕ → ℕ
number_at s at = if (eight_at s at) (number_of (eight s at)) 0
