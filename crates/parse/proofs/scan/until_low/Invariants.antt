-- `parse::scan::until_low` meets its contract: no byte stops before i.
use Rattle.std.proofs.Common.{◌-◌, ◌≤◌, length}
use Rattle.parse.proofs.Stops.{Passed}
use Rattle.parse.proofs.scan.until_low.Given as goal

abbrev pub invariant-loop-n : goal.invariant-loop-n
invariant-loop-n g l = record { inside : l.i ≤ length l.s; passed : Passed (goal.F-post g l.stop) l.s l.i }

abbrev pub decreases-loop-n : goal.decreases-loop-n
decreases-loop-n g l = length l.s - l.i

abbrev pub invariant-loop-k : goal.invariant-loop-k
invariant-loop-k g l = record { inside : l.i ≤ length l.s; passed : Passed (goal.F-post g l.stop) l.s l.k }
