-- `sort::larger_child` meets its contract: of the two children, the one returned does not come before the other.
use mathlib.Core.Path.{sym, ◌∙◌}
use Prim.Native.Nat.{◌+◌, ◌*◌}
use native.Mathlib.Omega.{arith}
use lib.ListN.{get_or}
use Rattle.sort.proofs.Heaps.{only_child, larger_of_two}
use Rattle.sort.proofs.Orders.{not_back}
use Rattle.sort.proofs.Theorems.{places_are_ordered}
use Rattle.sort.proofs.larger_child.Goals as goal

pub returns-then-n-right : goal.returns-then-n-right
returns-then-n-right c =
    let a = c.args in
    only_child (places_are_ordered a.layout a.s.now) a.index.now a.k a.n (omega arith) (omega arith)

pub returns-then-comes_first : goal.returns-then-comes_first
returns-then-comes_first c =
    let a = c.args in
    let o = places_are_ordered a.layout a.s.now in
    let left = 2 * a.k + 1 in
    let after = not_back o (get_or a.index.now left 0) (get_or a.index.now (left + 1) 0) (sym c.comes_first.ensures ∙ c.if-comes_first.true) in
    larger_of_two o a.index.now a.k a.n (left + 1) left (omega arith) (omega arith) (omega arith) after

pub returns : goal.returns
returns c =
    let a = c.args in
    let o = places_are_ordered a.layout a.s.now in
    let left = 2 * a.k + 1 in
    larger_of_two o a.index.now a.k a.n left (left + 1) (omega arith) (omega arith) (omega arith) (sym c.comes_first.ensures ∙ c.if-comes_first.false)
