-- `compare::order::by_one` meets its contract: the two are alike up to i.
use Rattle.compare.proofs.ByNumber.{AlikeTo}
use Rattle.compare.proofs.order.by_one.Given as goal

abbrev pub invariant-loop-i : goal.invariant-loop-i
invariant-loop-i l = AlikeTo l.a l.b l.i
