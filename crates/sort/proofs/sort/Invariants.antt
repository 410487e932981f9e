-- `sort::sort` meets its contract: the first n entries are a heap, those behind stand where they belong.
use Rattle.places.specs.Order.{comes_first}
use Rattle.sort.proofs.Emptying.{Emptying}
use Rattle.sort.proofs.sort.Given as goal

abbrev pub invariant-loop-n : goal.invariant-loop-n
invariant-loop-n l = Emptying (comes_first l.layout l.s) l.initial.index l.index l.n
