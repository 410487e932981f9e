-- `sort::rise` meets its contract: but for the edge above the entry that rises, the first n are a heap from root on.
use Rattle.places.specs.Order.{comes_first}
use Rattle.sort.proofs.Rising.{Up}
use Rattle.sort.proofs.rise.Given as goal

abbrev pub invariant-loop-k : goal.invariant-loop-k
invariant-loop-k l = Up (comes_first l.layout l.s) l.initial.index l.index l.root l.n l.k

abbrev pub decreases-loop-k : goal.decreases-loop-k
decreases-loop-k l = l.k
