-- `sort::sort` meets its contract: the first n entries are a heap, those behind stand where they belong.
use native.Mathlib.Omega.{arith}
use Rattle.sort.proofs.Emptying.{emptying_start, emptying_turn, emptying_end, heap_left}
use Rattle.sort.proofs.Theorems.{places_are_ordered}
use Rattle.sort.proofs.sort.Goals as goal

pub loop-n-init : goal.loop-n-init
loop-n-init c = emptying_start _ _ c.make_heap.ensures.0

pub sink-requires : goal.sink-requires
sink-requires c =
    let a = c.args in
    let left = heap_left (places_are_ordered a.layout a.s.now) _ _ _ c.loop-n.invariant (omega arith) _ c.swap.ensures.after in
    (omega arith, omega arith, left)

pub loop-n-preserved : goal.loop-n-preserved
loop-n-preserved c =
    let a = c.args in
    let s = c.sink.ensures in
    emptying_turn (places_are_ordered a.layout a.s.now) _ _ _ c.loop-n.invariant (omega arith) _ c.swap.ensures.after _ s.1 s.0

pub returns : goal.returns
returns c =
    let a = c.args in
    emptying_end (places_are_ordered a.layout a.s.now) _ _ _ c.loop-n.invariant (omega arith) a.index.now _ c.make_heap.ensures.1
