-- `runs::settle_rest` meets its contract: the edits that are left all get the same empty run.
use Prim.Native.Nat.{ℕ}
use mathlib.Core.List.{List}
use lib.ListN.{drop}
use Rattle.runs.specs.Runs.{Run, at_end}
use Rattle.runs.proofs.Marks.{Going}
use Rattle.runs.proofs.settle_rest.Given as goal

abbrev left : List ℕ → ℕ → ℕ → List Run
left index place j = at_end place (drop j index)

abbrev pub invariant-loop-j : goal.invariant-loop-j
invariant-loop-j l = Going (left l.index l.place) l.from l.initial.marks l.j l.marks
