-- `runs::settle_rest` meets its contract: the edits that are left all get the same empty run.
use Prim.Native.Nat.{ℕ}
use mathlib.Core.List.{List}
use lib.ListN.{drop}
use Rattle.runs.specs.Runs.{Run, at_end}
use Rattle.runs.proofs.Marks.{ends, goes_on, at_end_none, at_end_one}
use borrow.Author.Rules.{rules}
use Rattle.runs.proofs.settle_rest.Goals as goal

abbrev left : List ℕ → ℕ → ℕ → List Run
left index place j = at_end place (drop j index)

pub loop-j-preserved : goal.loop-j-preserved
loop-j-preserved c =
    let a = c.args in
    let l = c.loop-j in
    goes_on (left a.index.now a.place) a.from a.marks.now l.j l.marks l.invariant a.place a.place _ c.mark.ensures
    (at_end_one a.index.now a.place l.j (search rules))

pub returns : goal.returns
returns c =
    let a = c.args in
    let l = c.loop-j in
    (ends (left a.index.now a.place) a.from a.marks.now l.j l.marks l.invariant (at_end_none a.index.now a.place l.j c.loop-j-test.false)).1
