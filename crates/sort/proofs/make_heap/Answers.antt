-- `sort::make_heap` meets its contract: from root on the index is a heap, and root comes down to the front.
use native.Mathlib.Omega.{arith}
use lib.ListN.{length}
use Rattle.places.specs.Order.{comes_first}
use Rattle.sort.proofs.Heaps.{leaves}
use Rattle.sort.proofs.Swaps.{moved_none, moved_twice}
use Rattle.sort.proofs.make_heap.Goals as goal

pub loop-root-init : goal.loop-root-init
loop-root-init c =
    let a = c.args in
    (moved_none _ _, leaves (comes_first a.layout a.s.now) a.index.now (length a.index.now))

pub sink-requires : goal.sink-requires
sink-requires c = (omega arith, omega arith, λ p d l e f. c.loop-root.invariant.1 p d (omega arith) e f)

pub loop-root-preserved : goal.loop-root-preserved
loop-root-preserved c =
    let s = c.sink.ensures in
    (moved_twice _ _ _ _ c.loop-root.invariant.0 s.1, s.0)

pub returns : goal.returns
returns c =
    let i = c.loop-root.invariant in
    (λ p d l e f. i.1 p d (omega arith) e (omega arith), i.0)
