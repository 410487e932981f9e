-- The number of the line that a place lies in, and the text of a line without the line feed that ends it.
use Rattle.std.specs.Prelude.{not, List, [], ◌∷◌, ℕ, suc, ltb, eqb, take}
use Rattle.parse.specs.Choice.{if}
use Rattle.parse.specs.Run.{span}

-- the line feeds (10) among some bytes
abbrev pub line_feeds : List ℕ → ℕ
line_feeds [] = 0
line_feeds (b ∷ s) = if (eqb b 10) (suc (line_feeds s)) (line_feeds s)

-- "the true line number (one more than the line feeds before it)"
unfoldable pub line_number : List ℕ → ℕ → ℕ
line_number s place = suc (line_feeds (take place s))

-- a line number as a 64-bit number: "the largest number stays". No place under the size limit has one so large (`true-line`, proofs/Feeds.antt)
unfoldable pub at_most : ℕ → ℕ
at_most line = if (ltb line 18446744073709551615) line 18446744073709551615

abbrev pub line_told : List ℕ → ℕ → ℕ
line_told s place = at_most (line_number s place)

-- "the whole line, from that place on, without its ending LF; the last unterminated line no longer loses a byte": its length, where s are the bytes from the
-- place on
abbrev pub until_feed : List ℕ → ℕ
until_feed s = span (λ b. not (eqb b 10)) s
