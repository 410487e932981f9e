-- What a step hands out: a record by what it says, an error by its line number and its text; each with its place.
use Rattle.std.specs.Prelude.{List, [], ◌∷◌, ℕ, ◌+◌, length, take, Result, Ok, Err}
use Rattle.std.proofs.Math.Option.{Option, none, some}
use Rattle.decode.specs.Entry.{Entry, entry_of}
use Rattle.line_number.specs.LineNumber.{line_feeds, at_most, until_feed}
use Rattle.iter.specs.Items.{Item}
use Rattle.decode.specs.declared.reference.Fault.{Fault}
use Rattle.decode.specs.declared.reference.Record.{Record}

pub data Handed : Type 0 where
  good : Entry → Handed
  error : (line : ℕ) (text : List ℕ) → Handed

-- something that was handed out, the place that the step was taken from, and the next place that it told
pub record Given : Type 0 where
  pub place : ℕ
  pub next : ℕ
  pub what : Handed

abbrev pub given : ℕ → ℕ → Handed → Given
given place next what = record { place = place; next = next; what = what }

-- ---- the line number of an iteration's place: a walk knows it; with a prefix it is not known, "since it starts in the middle"

-- what an error tells of it: "0 for the line number"
abbrev pub line_or0 : Option ℕ → ℕ
line_or0 none = 0
line_or0 (some line) = line

-- behind so many line feeds; the largest number stays
abbrev pub line_on : Option ℕ → ℕ → Option ℕ
line_on none feeds = none
line_on (some line) feeds = some (at_most (line + feeds))

-- behind an item
abbrev pub line_over : Option ℕ → Item → Option ℕ
line_over line i = line_on line (line_feeds i.bytes)

-- ---- the items of a body, handed out one after another: the first stands at a place, on a line

-- "the whole line, from that place on, without its ending LF"
abbrev pub handed_by : ℕ → Option ℕ → List ℕ → Result Record Fault → Handed
handed_by n line bytes (Ok r) = good (entry_of n bytes r)
handed_by n line bytes (Err f) = error (line_or0 line) (take (until_feed bytes) bytes)

abbrev pub handed_at : ℕ → ℕ → Option ℕ → Item → Given
handed_at n place line i = given place (place + length i.bytes) (handed_by n line i.bytes i.what)

abbrev pub handed : ℕ → ℕ → Option ℕ → List Item → List Given
handed n place line [] = []
handed n place line (i ∷ l) = handed_at n place line i ∷ handed n (place + length i.bytes) (line_over line i) l

-- without the places
abbrev pub whats : List Given → List Handed
whats [] = []
whats (g ∷ l) = g.what ∷ whats l
