-- Lookup of one full name.
use Rattle.std.specs.Prelude.{List, ℕ, length, drop, Result, Ok, Err}
use Rattle.parse.specs.Choice.{if}
use Rattle.class.specs.Class.{Classes, paper}
use Rattle.parse.specs.Limit.{admission, admit}
use Rattle.name.specs.Name.{valid_name}
use Rattle.decode.specs.Record.{record_of, decoded, fault_number}
use Rattle.find.specs.declared.lookup.Lookup.{Lookup}
use Rattle.find.specs.declared.lookup.Lookup.TheVariants.{Charted, BadRecord, Unsure, Absent, BadName}
use Rattle.search.specs.Search.{search_of}
use Rattle.parse.specs.declared.limit.NotAdmitted.{NotAdmitted}
use Rattle.parse.specs.declared.limit.NotAdmitted.TheVariants.{TooLarge, UnknownKind}
use Rattle.search.specs.declared.Miss.{Miss}

-- "On a hit the record is read in full: 0, or 4 if bad; earlier failed probes then don't count. On a miss: 4 if a probe failed, else 5."
-- Document 02 has the number of the bad part for the hit's 4, which is 41 or 45 (Hits.antt)
abbrev pub lookup_by : Classes → ℕ → List ℕ → Result ℕ Miss → Lookup
lookup_by byte n s (Ok place) = decoded (record_of byte n (drop place s)) (λ r. Charted place r) (λ f. BadRecord place f)
lookup_by byte n s (Err miss) = if miss.failed Unsure Absent

-- "Lookup: 1, 17, 3, search."
unfoldable pub lookup_of : Classes → ℕ → List ℕ → List ℕ → Lookup
lookup_of byte n s name = if (valid_name byte name) (lookup_by byte n s (search_of byte n s name)) BadName

unfoldable pub lookup_answer : ℕ → List ℕ → List ℕ → Result Lookup NotAdmitted
lookup_answer kind s name =
    admit (admission kind (length s) (length name)) (λ n. Ok (lookup_of paper n s name)) (Err UnknownKind) (Err TooLarge)

-- the paper's number for each case
abbrev pub lookup_number : Result Lookup NotAdmitted → ℕ
lookup_number (Ok (Charted place r)) = 0
lookup_number (Ok (BadRecord place f)) = fault_number f
lookup_number (Ok Unsure) = 4
lookup_number (Ok Absent) = 5
lookup_number (Ok BadName) = 3
lookup_number (Err UnknownKind) = 1
lookup_number (Err TooLarge) = 17
