-- `compare::order::compare` meets its contract: as long as the numbers of eight bytes are the same, the two are alike up to i; the first numbers that
-- differ tell the order, and where none do, the lengths.
use Prim.Native.Nat.{◌-◌, ◌≤◌}
use Rattle.compare.proofs.ByNumber.{AlikeTo}
use Rattle.compare.proofs.order.compare.Given as goal

abbrev pub invariant-loop-i : goal.invariant-loop-i
invariant-loop-i l = (l.i ≤ l.l) × AlikeTo l.a l.b l.i

abbrev pub decreases-loop-i : goal.decreases-loop-i
decreases-loop-i l = l.l - l.i
