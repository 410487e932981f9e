-- `edits::list::count` meets its contract: the edits from the place reached on, counted after those before, decide the whole.
use mathlib.Core.Path.{◌≡◌}
use Prim.Native.Nat.{◌-◌, ◌≤◌}
use lib.ListN.{length}
use Rattle.class.specs.Class.{paper}
use Rattle.edits.specs.List.{edits_from, edits_of, counted}
use Rattle.edits.proofs.list.count.Given as goal

abbrev pub invariant-loop-place : goal.invariant-loop-place
invariant-loop-place l = (l.count ≤ 4096) × (counted l.count (edits_from paper l.n l.list (4096 - l.count) l.place) ≡ counted 0 (edits_of paper l.n l.list))

abbrev pub decreases-loop-place : goal.decreases-loop-place
decreases-loop-place l = length l.list - l.place
