-- `sort::descend` meets its contract: the entry comes down from one place to the next.
use Prim.Native.Nat.{◌-◌}
use Rattle.places.specs.Order.{comes_first}
use Rattle.sort.specs.Heap.{Down}
use Rattle.sort.proofs.descend.Given as goal

abbrev pub invariant-loop-k : goal.invariant-loop-k
invariant-loop-k l = Down (comes_first l.layout l.s) l.initial.index l.index l.root l.n l.k

abbrev pub decreases-loop-k : goal.decreases-loop-k
decreases-loop-k l = l.n - l.k
