-- `probe::start::line_start_far` meets its contract: what is left are the first bytes, and the line that they end in begins where the place's line does.
use Rattle.std.proofs.Common.{◌≡◌, ◌≤◌, length, take}
use Rattle.probe.specs.RecordStart.{line_start}
use Rattle.probe.proofs.start.line_start_far.Given as goal

abbrev pub invariant-loop-front : goal.invariant-loop-front
invariant-loop-front l = (length l.rest ≤ length l.s) × (l.rest ≡ take (length l.rest) l.s) × (line_start l.s (length l.rest) ≡ line_start l.s l.place)

abbrev pub decreases-loop-front : goal.decreases-loop-front
decreases-loop-front l = length l.rest
