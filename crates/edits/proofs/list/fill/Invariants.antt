-- `edits::list::fill` meets its contract: the places done stand in the index, and the rest of the list holds those that are left.
use Prim.Native.Nat.{◌≤◌}
use lib.ListN.{length}
use Rattle.class.specs.Class.{paper}
use Rattle.edits.proofs.Filling.{Filling}
use Rattle.edits.proofs.list.fill.Given as goal

abbrev pub invariant-loop-entry : goal.invariant-loop-entry
invariant-loop-entry l = (l.place ≤ length l.list) × Filling paper l.n l.list l.initial.index l.index l.place l.entry-index
