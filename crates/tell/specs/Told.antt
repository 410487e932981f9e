-- Where the parts of a record stand in the bytes in which its own place is counted; and what stands beside a refusal's number.
use Rattle.std.specs.Prelude.{◌≡◌, Bool, false, ◌||◌, List, ℕ, ◌+◌, ◌≤◌, length, drop, Option, Some, None}
use Rattle.parse.specs.Choice.{if}
use Rattle.parse.specs.Limit.{digits_of, over_limit}
use Rattle.decode.specs.declared.reference.Fault.{Fault}
use Rattle.decode.specs.declared.reference.Record.{Record}
use Rattle.line_number.specs.LineNumber.{line_number, line_told, until_feed}
use Rattle.checks.specs.declared.Refusal.{Refusal}
use Rattle.checks.specs.declared.Refusal.TheVariants.{BadHeader, BadRecord, Unsorted}
use Rattle.checks.specs.Check.{refusal_number}
use Rattle.tell.specs.declared.Parts.{Parts}
use Rattle.tell.specs.declared.Numbered.{Numbered}

-- ---- a record

-- the digits of an id; where the kind is unknown there are none
abbrev pub id_len : Option ℕ → ℕ
id_len (Some n) = n
id_len None = 0

-- "Record: id, one space, valid name"
unfoldable pub name_at : ℕ → ℕ → ℕ
name_at kind place = place + id_len (digits_of kind) + 1

-- where the peeled id stands that is at a place of the record; 0 where it has none
unfoldable pub peeled_at : ℕ → Option ℕ → ℕ
peeled_at place (Some at) = place + at
peeled_at place None = 0

-- whether there is a peeled id that stands beyond the size limit
abbrev pub beyond_limit : Option ℕ → Bool
beyond_limit (Some at) = over_limit at
beyond_limit None = false

-- where there is no record
abbrev pub no_parts : Parts
no_parts = record { name_at = 0; name_len = 0; peeled_at = 0 }

-- the parts of a record that starts at a place
abbrev pub parts_of : ℕ → ℕ → Record → Parts
parts_of kind place r = record { name_at = name_at kind place; name_len = r.name_len; peeled_at = peeled_at place r.peeled }

-- what the function that tells them promises the replies: beyond the size limit, nothing
unfoldable pub parts_told : ℕ → ℕ → Record → Parts
parts_told kind place r = if (over_limit place || beyond_limit r.peeled) no_parts (parts_of kind place r)

-- a record that starts at a place, and its peeled id, stand under the size limit, as they do in lent bytes: its parts are told as they are
-- (`told-near`, proofs/Near.antt)
abbrev pub Near : ℕ → Record → Type 0
Near place r = (place ≤ 1073741824) × (beyond_limit r.peeled ≡ false)

-- ---- a refusal

-- "Beside the number, check and merge give the item's place in the lent file for 4 and 6, ..", where document 02 has 41 to 45 for 4
abbrev pub refusal_place : Refusal → ℕ
refusal_place (BadHeader text) = 0
refusal_place (BadRecord place f) = place
refusal_place (Unsorted place) = place

-- "the true line number (one more than the line feeds before it)": "Check and merge pass the same on for 4", which is 41 to 45. Beside 6 there is the
-- place alone
abbrev pub refusal_line : List ℕ → Refusal → ℕ
refusal_line file (BadHeader text) = 0
refusal_line file (BadRecord place f) = line_told file place
refusal_line file (Unsorted place) = 0

-- ".. and 2 its text"; and for 41 to 45 "the whole line, from that place on, without its ending LF"
abbrev pub refusal_text : List ℕ → Refusal → ℕ
refusal_text file (BadHeader text) = text
refusal_text file (BadRecord place f) = until_feed (drop place file)
refusal_text file (Unsorted place) = 0

abbrev pub refusal_told : List ℕ → Refusal → Numbered
refusal_told file why =
    record { number = refusal_number why; place = refusal_place why; line = refusal_line file why; text_len = refusal_text file why }

-- what the line number is worth: of a file within the size limit it is the true one
abbrev pub TellsTrue : Type 0
TellsTrue = (file : List ℕ) (place : ℕ) (f : Fault) → length file ≤ 1073741824 → refusal_line file (BadRecord place f) ≡ line_number file place
