-- `sort::make_heap` meets its contract: from root on the index is a heap, and root comes down to the front.
use Rattle.places.specs.Order.{comes_first}
use Rattle.sort.specs.Heap.{Heap, Moved}
use Rattle.sort.proofs.make_heap.Given as goal

abbrev pub invariant-loop-root : goal.invariant-loop-root
invariant-loop-root l = Moved l.initial.index l.index l.n × Heap (comes_first l.layout l.s) l.index l.root l.n
