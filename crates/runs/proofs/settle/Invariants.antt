-- `runs::settle` meets its contract: the edits up to the first of a greater name are settled, one after another.
use mathlib.Core.List.{List}
use Prim.Native.Nat.{ℕ}
use lib.ListN.{drop}
use Rattle.runs.specs.Runs.{Run, settles}
use Rattle.runs.proofs.Marks.{Going}
use Rattle.runs.proofs.settle.Given as goal

abbrev left : List ℕ → List ℕ → List ℕ → ℕ → ℕ → ℕ → List Run
left list index name place next j = settles list name place next (drop j index)

abbrev pub invariant-loop-j : goal.invariant-loop-j
invariant-loop-j l = Going (left l.list l.index l.name l.place l.next) l.from l.initial.marks l.j l.marks
