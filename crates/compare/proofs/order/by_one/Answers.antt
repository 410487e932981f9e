-- `compare::order::by_one` meets its contract: the two are alike up to i.
use mathlib.Core.Path.{◌∙◌}
use native.Mathlib.Omega.{arith}
use Rattle.compare.proofs.ByNumber.{order_by_bytes, order_by_lengths}
use Rattle.compare.proofs.order.by_one.Goals as goal

pub returns-then-x-y : goal.returns-then-x-y
returns-then-x-y c =
    let s = c.args in
    c.cmp.ensures ∙ order_by_bytes s.a.now s.b.now c.loop-i.i (omega arith) (omega arith) c.loop-i.invariant c.if-x-y.true

pub returns : goal.returns
returns c =
    let s = c.args in
    c.cmp-2.ensures
    ∙ order_by_lengths s.a.now s.b.now c.loop-i.i (omega arith) (omega arith) (λ h g. omega (arith, h, g)) c.loop-i.invariant
