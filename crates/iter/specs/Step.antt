-- One step of an iteration, at a place of the bytes s, and the line number that an error tells.
use Rattle.std.specs.Prelude.{List, [], ℕ, ◌+◌, ltb, length, drop, Result, Ok, Err}
use Rattle.parse.specs.Choice.{if}
use Rattle.class.specs.Class.{Classes, paper}
use Rattle.parse.specs.Limit.{admission, admit}
use Rattle.parse.specs.Line.{line_len}
use Rattle.compare.specs.Prefix.{begins}
use Rattle.decode.specs.Record.{record_of}
use Rattle.line_number.specs.LineNumber.{line_number, until_feed}
use Rattle.iter.specs.declared.step.Step.{Step}
use Rattle.iter.specs.declared.step.Step.TheVariants.{End, Good, Error}
use Rattle.iter.specs.Items.{name_in}
use Rattle.decode.specs.declared.reference.Fault.{Fault}
use Rattle.decode.specs.declared.reference.Record.{Record}
use Rattle.parse.specs.declared.limit.NotAdmitted.{NotAdmitted}
use Rattle.parse.specs.declared.limit.NotAdmitted.TheVariants.{TooLarge, UnknownKind}

-- what a reading of the bytes from the place on comes to. A good record is an item; with a prefix "a good record whose name doesn't begin with it ends the
-- iteration for good". "An error shall give the byte place in the lent bytes", which is the step's own, "the true line number [..], and the whole line, from that
-- place on, without its ending LF": the line number is given, and further down it is said which
abbrev pub step_by : ℕ → List ℕ → List ℕ → ℕ → ℕ → Result Record Fault → Step
step_by n prefix s place line (Ok r) =
    if (begins prefix (name_in n (Ok r) (drop place s))) (Good r (place + r.size)) (End (length s))
step_by n prefix s place line (Err f) = Error f line (until_feed (drop place s)) (place + line_len (drop place s))

-- "A start place at or beyond the end gives the end"; "Every end, a prefix's too, gives the length as next place"
unfoldable pub step_of : Classes → ℕ → List ℕ → List ℕ → ℕ → ℕ → Step
step_of byte n prefix s place line =
    if (ltb place (length s)) (step_by n prefix s place line (record_of byte n (drop place s))) (End (length s))

-- with the kind's number first, then the size limit of each lent input
unfoldable pub step_answer : ℕ → List ℕ → List ℕ → ℕ → ℕ → Result Step NotAdmitted
step_answer kind prefix s place line =
    admit (admission kind (length s) (length prefix)) (λ n. Ok (step_of paper n prefix s place line)) (Err UnknownKind) (Err TooLarge)

-- ---- the line that is told

-- the plain step: "the true line number (one more than the line feeds before it)", whatever the place
abbrev pub plain_answer : ℕ → List ℕ → ℕ → Result Step NotAdmitted
plain_answer kind s place = step_answer kind [] s place (line_number s place)

-- "Prefix iteration gives the place counted from the whole lent bytes and 0 for the line number, since it starts in the middle."
abbrev pub prefix_answer : ℕ → List ℕ → List ℕ → ℕ → Result Step NotAdmitted
prefix_answer kind prefix s place = step_answer kind prefix s place 0

-- the paper's number for each case
abbrev pub step_number : Result Step NotAdmitted → ℕ
step_number (Ok r) = 0
step_number (Err UnknownKind) = 1
step_number (Err TooLarge) = 17
