-- Prefix iteration: where it starts.
use Rattle.std.specs.Prelude.{List, ℕ, ◌+◌, length, drop, Result, Ok, Err}
use Rattle.class.specs.Class.{Classes, paper}
use Rattle.parse.specs.Limit.{admission, admit}
use Rattle.start.specs.Start.{start_of, starts_at}
use Rattle.search.specs.Search.{search_of, missed}
use Rattle.find.specs.declared.prefix_start.BadStart.{BadStart}
use Rattle.header.specs.Header.{unreadable}
use Rattle.header.specs.declared.BadHeader.{BadHeader}
use Rattle.parse.specs.declared.limit.NotAdmitted.{NotAdmitted}
use Rattle.parse.specs.declared.limit.NotAdmitted.TheVariants.{TooLarge, UnknownKind}
use Rattle.search.specs.declared.Miss.{Miss}
use Rattle.start.specs.declared.Start.{Start}

abbrev pub place_of : Result ℕ Miss → ℕ
place_of (Ok place) = place
place_of (Err miss) = miss.place

-- bytes from a place on that begin with # but with no header: the length of that text
abbrev pub bad_start : ℕ → ℕ → Result ℕ BadStart
bad_start place text = Err (record { place = place; text = text })

-- a start that was found in the bytes from a place on, with its place counted in the whole lent bytes
abbrev pub shifted : ℕ → Result Start BadHeader → Result ℕ BadStart
shifted place (Ok start) = Ok (place + start.place)
shifted place (Err bad) = bad_start place bad.text

-- "applies the `#` rule to the part it starts on"
unfoldable pub prefix_start_from : Classes → List ℕ → ℕ → Result ℕ BadStart
prefix_start_from byte s place = shifted place (start_of byte (drop place s))

-- "Prefix iteration starts at the search's place for the prefix, [..] ignores remembered failures". Document 01's "numbers from 1" is gone with document 02: it
-- gives "0 for the line number, since it starts in the middle"
unfoldable pub prefix_start_of : Classes → ℕ → List ℕ → List ℕ → Result ℕ BadStart
prefix_start_of byte n s prefix = prefix_start_from byte s (place_of (search_of byte n s prefix))

unfoldable pub prefix_start_answer : ℕ → List ℕ → List ℕ → Result (Result ℕ BadStart) NotAdmitted
prefix_start_answer kind s prefix =
    admit (admission kind (length s) (length prefix)) (λ n. Ok (prefix_start_of paper n s prefix)) (Err UnknownKind) (Err TooLarge)

-- the paper's number for each case
abbrev pub prefix_start_number : Result (Result ℕ BadStart) NotAdmitted → ℕ
prefix_start_number (Ok (Ok place)) = 0
prefix_start_number (Ok (Err bad)) = 2
prefix_start_number (Err UnknownKind) = 1
prefix_start_number (Err TooLarge) = 17
