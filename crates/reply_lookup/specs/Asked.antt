-- What the lookup that can be trusted on any bytes gives back.
use Rattle.std.specs.Prelude.{◌≡◌, List, ℕ, Result, Ok, Err}
use Rattle.decode.specs.declared.reference.Record.{Record}
use Rattle.ask.specs.declared.Told.TheVariants.{Charted, Absent, BadName, Refused}
use Rattle.ask.specs.Ask.{ask_number, ask_fault}
use Rattle.tell.specs.declared.Parts.{Parts}
use Rattle.tell.specs.Told.{Near, no_parts, parts_of, refusal_place, refusal_line, refusal_text}
use Rattle.reply_lookup.specs.declared.asked.AskReply.{AskReply}
use Rattle.ask.specs.declared.Told.{Told}
use Rattle.checks.specs.declared.Refusal.{Refusal}
use Rattle.parse.specs.declared.limit.NotAdmitted.{NotAdmitted}
use Rattle.parse.specs.declared.limit.NotAdmitted.TheVariants.{TooLarge, UnknownKind}

abbrev pub ask_gives : ℕ → ℕ → ℕ → Parts → ℕ → ℕ → AskReply
ask_gives number place line parts text_len fault =
    record {
      number = number;
      place = place;
      line = line;
      name_at = parts.name_at;
      name_len = parts.name_len;
      peeled_at = parts.peeled_at;
      text_len = text_len;
      fault = fault;
    }

-- what stands beside a number: where the check refuses, what the check gives beside it, its place, line and text; and the fault, which is a number alone
abbrev pub ask_beside : ℕ → ℕ → ℕ → List ℕ → Result Told NotAdmitted → AskReply
ask_beside number fault kind file (Ok (Charted place r v)) = ask_gives number place 0 (parts_of kind place r) 0 fault
ask_beside number fault kind file (Ok Absent) = ask_gives number 0 0 no_parts 0 fault
ask_beside number fault kind file (Ok BadName) = ask_gives number 0 0 no_parts 0 fault
ask_beside number fault kind file (Ok (Refused why)) = ask_gives number (refusal_place why) (refusal_line file why) no_parts (refusal_text file why) fault
ask_beside number fault kind file (Err UnknownKind) = ask_gives number 0 0 no_parts 0 fault
ask_beside number fault kind file (Err TooLarge) = ask_gives number 0 0 no_parts 0 fault

abbrev pub ask_reply : ℕ → List ℕ → Result Told NotAdmitted → AskReply
ask_reply kind file a = ask_beside (ask_number a) (ask_fault a) kind file a

-- what the private function `ask_told` requires: a record in the answer lies under the size limit
abbrev pub AskNear : Result Told NotAdmitted → Type 0
AskNear a = (place : ℕ) (r : Record) (v : Result ℕ Refusal) → a ≡ Ok (Charted place r v) → Near place r
