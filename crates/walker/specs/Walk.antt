-- The walk: a step that is given the line number of its place and hands on that of the next.
use Rattle.std.specs.Prelude.{◌≡◌, List, [], ℕ, ◌+◌, ◌-◌, ltb, is_none, take, drop, Result, Ok, Err}
use Rattle.parse.specs.Choice.{if}
use Rattle.line_number.specs.LineNumber.{line_feeds, line_number, at_most}
use Rattle.iter.specs.declared.step.Step.{Step}
use Rattle.iter.specs.declared.step.Step.TheVariants.{End, Good, Error}
use Rattle.walker.specs.declared.Walked.{Walked}
use Rattle.iter.specs.Step.{step_answer, plain_answer}
use Rattle.parse.specs.declared.limit.NotAdmitted.{NotAdmitted}

-- where a step says that the next one begins
abbrev pub next_of : Step → ℕ
next_of (End next) = next
next_of (Good r next) = next
next_of (Error f line text next) = next

-- the line number of the next place, from that of the place: the line feeds of the item more; at an end as it came. The largest number stays
abbrev pub line_behind : List ℕ → ℕ → ℕ → Step → ℕ
line_behind s place line (End next) = line
line_behind s place line (Good r next) = at_most (line + line_feeds (take (next - place) (drop place s)))
line_behind s place line (Error f told text next) = at_most (line + line_feeds (take (next - place) (drop place s)))

-- what is handed on beside an answer; a refusal hands on nothing
abbrev pub handed_on : List ℕ → ℕ → ℕ → Result Step NotAdmitted → ℕ
handed_on s place line (Ok step) = line_behind s place line step
handed_on s place line (Err why) = 0

-- an error tells the line number that was given
abbrev pub walk_answer : ℕ → List ℕ → ℕ → ℕ → Walked
walk_answer kind s place line =
    record { answer = step_answer kind [] s place line; line = handed_on s place line (step_answer kind [] s place line) }

-- ---- what it is worth: at any place, given the true line number, it tells what the plain step tells, and hands on the true line number of the next place

pub record WalksTrue (kind : ℕ) (s : List ℕ) (place : ℕ) : Type 0 where
  pub same : (walk_answer kind s place (line_number s place)).answer ≡ plain_answer kind s place
  pub on : (step : Step) → plain_answer kind s place ≡ Ok step → (walk_answer kind s place (line_number s place)).line ≡ line_number s (next_of step)

abbrev pub AlwaysTrue : Type 0
AlwaysTrue = (kind : ℕ) (s : List ℕ) (place : ℕ) → WalksTrue kind s place

-- ---- what the private function `feeds_of` promises

abbrev pub feeds_of : ℕ → Step → ℕ
feeds_of place (End next) = 0
feeds_of place (Good r next) = if (is_none r.peeled) 1 2
feeds_of place (Error f line text next) = if (ltb text (next - place)) 1 0
