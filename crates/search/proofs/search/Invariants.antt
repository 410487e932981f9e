-- `search::search` meets its contract: what is left to halve decides the whole.
use Prim.Native.Nat.{◌-◌}
use lib.ListN.{length}
use Rattle.class.specs.Class.{paper}
use Rattle.search.specs.Search.{order_at, failure_at}
use Rattle.search.proofs.Halving.{Going}
use Rattle.search.proofs.search.Given as goal

abbrev pub invariant-loop-high : goal.invariant-loop-high
invariant-loop-high l = Going (order_at paper l.n l.s l.wanted) (failure_at paper l.n l.s l.wanted) (length l.s) l.low l.high l.failed

abbrev pub decreases-loop-high : goal.decreases-loop-high
decreases-loop-high l = l.high - l.low
