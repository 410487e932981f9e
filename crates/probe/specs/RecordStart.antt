-- The record start of a place.
use Rattle.std.specs.Prelude.{◌≡◌, List, ℕ, zero, suc, ◌-◌, eqb, get_or, length}
use Rattle.parse.specs.Choice.{if}

-- "the byte after the last LF before it, or 0"; beyond the end there is no LF, so a place there counts as the end
abbrev pub line_start : List ℕ → ℕ → ℕ
line_start s zero = zero
line_start s (suc place) = if (eqb (get_or s place 0) 10) (suc place) (line_start s place)

-- "If that byte is `^`, one line back. If that would be the end of the bytes, 0": `^` is 94
unfoldable pub record_start : List ℕ → ℕ → ℕ
record_start s place =
    let start = line_start s place in
    if (eqb (get_or s start 0) 94) (line_start s (start - 1)) (if (eqb start (length s)) 0 start)

-- that r is the record start of every place whose line starts there
abbrev pub OfLine : List ℕ → ℕ → ℕ → Type 0
OfLine s start r = (place : ℕ) → start ≡ line_start s place → r ≡ record_start s place
