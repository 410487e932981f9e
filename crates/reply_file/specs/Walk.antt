-- What the start, the step and the walk give back.
use Rattle.std.specs.Prelude.{◌≡◌, ℕ, Result, Ok, Err}
use Rattle.decode.specs.declared.reference.Record.{Record}
use Rattle.decode.specs.Record.{fault_number}
use Rattle.iter.specs.declared.step.Step.TheVariants.{End, Good, Error}
use Rattle.walker.specs.declared.Walked.{Walked}
use Rattle.start.specs.Start.{start_number}
use Rattle.iter.specs.Step.{step_number}
use Rattle.reply_file.specs.declared.walk.StartReply.{StartReply}
use Rattle.reply_file.specs.declared.walk.StepReply.{StepReply}
use Rattle.tell.specs.declared.Parts.{Parts}
use Rattle.tell.specs.Told.{Near, no_parts, parts_of}
use Rattle.header.specs.declared.BadHeader.{BadHeader}
use Rattle.iter.specs.declared.step.Step.{Step}
use Rattle.parse.specs.declared.limit.NotAdmitted.{NotAdmitted}
use Rattle.parse.specs.declared.limit.NotAdmitted.TheVariants.{TooLarge, UnknownKind}
use Rattle.start.specs.declared.Start.{Start}

-- ---- the start

abbrev pub start_gives : ℕ → ℕ → ℕ → ℕ → StartReply
start_gives number place line text_len = record { number = number; place = place; line = line; text_len = text_len }

-- what stands beside a number
abbrev pub start_beside : ℕ → Result (Result Start BadHeader) NotAdmitted → StartReply
start_beside number (Ok (Ok start)) = start_gives number start.place start.line 0
start_beside number (Ok (Err bad)) = start_gives number 0 0 bad.text
start_beside number (Err UnknownKind) = start_gives number 0 0 0
start_beside number (Err TooLarge) = start_gives number 0 0 0

abbrev pub start_reply : Result (Result Start BadHeader) NotAdmitted → StartReply
start_reply a = start_beside (start_number a) a

-- ---- the step from a place

abbrev pub step_gives : ℕ → ℕ → ℕ → ℕ → Parts → ℕ → ℕ → ℕ → ℕ → StepReply
step_gives number what start next parts why line nextLine text_len =
    record {
      number = number;
      what = what;
      start = start;
      next = next;
      name_at = parts.name_at;
      name_len = parts.name_len;
      peeled_at = parts.peeled_at;
      why = why;
      line = line;
      next_line = nextLine;
      text_len = text_len;
    }

-- what stands beside a number. What it is: 1 a record, 2 an error, 0 no item; and why it is an error, "41 to 45". "An error shall give the byte place in the
-- lent bytes, the true line number [..], and the whole line, from that place on, without its ending LF": the place is its start, where the text begins
abbrev pub step_beside : ℕ → ℕ → ℕ → ℕ → Result Step NotAdmitted → StepReply
step_beside number kind place nextLine (Ok (End next)) = step_gives number 0 0 next no_parts 0 0 nextLine 0
step_beside number kind place nextLine (Ok (Good r next)) = step_gives number 1 place next (parts_of kind place r) 0 0 nextLine 0
step_beside number kind place nextLine (Ok (Error f line text next)) = step_gives number 2 place next no_parts (fault_number f) line nextLine text
step_beside number kind place nextLine (Err UnknownKind) = step_gives number 0 0 0 no_parts 0 0 0 0
step_beside number kind place nextLine (Err TooLarge) = step_gives number 0 0 0 no_parts 0 0 0 0

-- with the line number that is handed on
abbrev pub step_told : ℕ → ℕ → ℕ → Result Step NotAdmitted → StepReply
step_told kind place nextLine a = step_beside (step_number a) kind place nextLine a

-- the plain step and the step with a prefix hand on none
abbrev pub step_reply : ℕ → ℕ → Result Step NotAdmitted → StepReply
step_reply kind place a = step_told kind place 0 a

abbrev pub walk_reply : ℕ → ℕ → Walked → StepReply
walk_reply kind place w = step_told kind place w.line w.answer

-- what the private function `step_told` requires: a record in the answer lies under the size limit
abbrev pub StepNear : ℕ → Result Step NotAdmitted → Type 0
StepNear place a = (r : Record) (next : ℕ) → a ≡ Ok (Good r next) → Near place r
