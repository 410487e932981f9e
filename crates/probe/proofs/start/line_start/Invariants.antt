-- `probe::start::line_start` meets its contract: the line that i lies in begins where the place's line does.
use mathlib.Core.Path.{◌≡◌}
use Prim.Native.Nat.{◌≤◌}
use lib.ListN.{length}
use Rattle.probe.specs.RecordStart.{line_start}
use Rattle.probe.proofs.start.line_start.Given as goal

abbrev pub invariant-loop : goal.invariant-loop
invariant-loop l = (l.i ≤ length l.s) × (line_start l.s l.i ≡ line_start l.s l.place)
