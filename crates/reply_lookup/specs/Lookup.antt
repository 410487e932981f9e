-- What the lookup gives back.
use Rattle.std.specs.Prelude.{◌≡◌, ℕ, Result, Ok, Err}
use Rattle.decode.specs.declared.reference.Record.{Record}
use Rattle.find.specs.declared.lookup.Lookup.TheVariants.{Charted, BadRecord, Unsure, Absent, BadName}
use Rattle.find.specs.Lookup.{lookup_number}
use Rattle.tell.specs.declared.Parts.{Parts}
use Rattle.tell.specs.Told.{Near, no_parts, parts_of}
use Rattle.reply_lookup.specs.declared.lookup.LookupReply.{LookupReply}
use Rattle.find.specs.declared.lookup.Lookup.{Lookup}
use Rattle.parse.specs.declared.limit.NotAdmitted.{NotAdmitted}
use Rattle.parse.specs.declared.limit.NotAdmitted.TheVariants.{TooLarge, UnknownKind}

abbrev pub lookup_gives : ℕ → ℕ → Parts → LookupReply
lookup_gives number place parts =
    record { number = number; place = place; name_at = parts.name_at; name_len = parts.name_len; peeled_at = parts.peeled_at }

-- what stands beside a number: "lookup on a hit the record's start for 4", which document 02 makes 41 or 45; a miss keeps 4, and has no place
abbrev pub lookup_beside : ℕ → ℕ → Result Lookup NotAdmitted → LookupReply
lookup_beside number kind (Ok (Charted place r)) = lookup_gives number place (parts_of kind place r)
lookup_beside number kind (Ok (BadRecord place f)) = lookup_gives number place no_parts
lookup_beside number kind (Ok Unsure) = lookup_gives number 0 no_parts
lookup_beside number kind (Ok Absent) = lookup_gives number 0 no_parts
lookup_beside number kind (Ok BadName) = lookup_gives number 0 no_parts
lookup_beside number kind (Err UnknownKind) = lookup_gives number 0 no_parts
lookup_beside number kind (Err TooLarge) = lookup_gives number 0 no_parts

abbrev pub lookup_reply : ℕ → Result Lookup NotAdmitted → LookupReply
lookup_reply kind a = lookup_beside (lookup_number a) kind a

-- what the private function `lookup_told` requires: a record in the answer lies under the size limit
abbrev pub LookupNear : Result Lookup NotAdmitted → Type 0
LookupNear a = (place : ℕ) (r : Record) → a ≡ Ok (Charted place r) → Near place r
