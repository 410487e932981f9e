-- `runs::survey` meets its contract: the check goes as in `checks`, and beside it each record settles its edits.
use mathlib.Core.Path.{◌≡◌}
use mathlib.Core.List.{[]}
use Prim.Native.Nat.{◌-◌, ◌≤◌}
use lib.ListN.{length, drop}
use Rattle.class.specs.Class.{paper}
use Rattle.iter.specs.Items.{items}
use Rattle.checks.specs.Check.{judge, judge_body}
use Rattle.runs.proofs.RunTurns.{marked}
use Rattle.runs.proofs.survey.Given as goal

abbrev pub invariant-loop-marks : goal.invariant-loop-marks
invariant-loop-marks l = l.count ≤ l.place
    × (judge l.n l.place l.count l.last (items paper l.n (drop l.place l.file)) ≡ judge_body paper l.n l.file l.body)
    × (marked paper l.n l.file l.list l.index l.place l.last l.j l.marks ≡ marked paper l.n l.file l.list l.index l.body [] 0 l.initial.marks)

abbrev pub decreases-loop-marks : goal.decreases-loop-marks
decreases-loop-marks l = length l.file - l.place
