-- What the step of an iteration that is one value answers, and where it leaves the iteration.
use Rattle.std.specs.Prelude.{List, [], ◌∷◌, ℕ, Result, Ok, Err}
use Rattle.walker.specs.declared.Walked.{Walked}
use Rattle.iter.specs.Step.{prefix_answer}
use Rattle.walker.specs.Walk.{next_of, walk_answer}
use Rattle.iterator.specs.declared.Iter.{Iter}
use Rattle.iterator.specs.declared.Stepped.{Stepped}
use Rattle.iter.specs.declared.step.Step.{Step}
use Rattle.parse.specs.declared.limit.NotAdmitted.{NotAdmitted}

-- the answer at a place on a line, and the line number that is handed on. An empty prefix is none, and then it is the walk. "Prefix iteration gives [..] 0 for
-- the line number, since it starts in the middle."
abbrev pub step_with : ℕ → List ℕ → List ℕ → ℕ → ℕ → Walked
step_with kind [] s place line = walk_answer kind s place line
step_with kind (b ∷ prefix) s place line = record { answer = prefix_answer kind (b ∷ prefix) s place; line = 0 }

abbrev pub taken : Iter → Walked
taken it = step_with it.kind it.prefix.now it.s.now it.place it.line

abbrev pub answer_of : Iter → Result Step NotAdmitted
answer_of it = (taken it).answer

-- "returns the next of both": the place and the line number at which an answer leaves an iteration that came with these, where `on` is the number that is
-- handed on. A refusal leaves both as they came
abbrev pub next_of_both : ℕ → ℕ → ℕ → Result Step NotAdmitted → ℕ × ℕ
next_of_both place line on (Ok step) = (next_of step, on)
next_of_both place line on (Err why) = (place, line)

-- the answer, with where it leaves the iteration
abbrev pub stepped_from : ℕ → ℕ → Walked → Stepped
stepped_from place line to =
    let (place, line) = next_of_both place line to.line to.answer in
    record { answer = to.answer; place = place; line = line }

-- the iteration behind its step: the same kind, bytes and prefix, at the next place, on its line
abbrev pub next_iter : Iter → Iter
next_iter it =
    let (place, line) = next_of_both it.place it.line (taken it).line (answer_of it) in
    record { kind = it.kind; s = it.s; prefix = it.prefix; place = place; line = line }
