-- `parse::scan::next_byte` meets its contract: sixteen bytes without b are passed over, the rest goes byte by byte.
use Rattle.std.proofs.Common.{◌≡◌, ◌+◌, ◌-◌, ◌≤◌, length, drop}
use Rattle.parse.specs.Run.{before}
use Rattle.parse.proofs.scan.next_byte.Given as goal

abbrev pub invariant-loop-behind : goal.invariant-loop-behind
invariant-loop-behind l = record { inside : l.at + length l.rest ≤ length l.s; same : length l.s - length l.rest + before l.b l.rest ≡ l.at + before l.b (drop l.at l.s) }

abbrev pub decreases-loop-behind : goal.decreases-loop-behind
decreases-loop-behind l = length l.rest
