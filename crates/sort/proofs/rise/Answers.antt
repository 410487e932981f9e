-- `sort::rise` meets its contract: but for the edge above the entry that rises, the first n are a heap from root on.
use mathlib.Core.Path.{sym, ◌∙◌}
use Prim.Native.Nat.{◌-◌, ◌/◌}
use native.Mathlib.Omega.{arith}
use Rattle.sort.proofs.Rising.{up_start, up_step, up_stop, up_end}
use Rattle.sort.proofs.Theorems.{places_are_ordered}
use Rattle.sort.proofs.rise.Goals as goal

pub loop-k-init : goal.loop-k-init
loop-k-init c =
    up_start _ c.args.index.now c.args.root c.args.n c.args.leaf c.requires.1 c.requires.2 c.requires.4

pub returns-then-not-comes_first : goal.returns-then-not-comes_first
returns-then-not-comes_first c =
    let a = c.args in
    let stop = sym c.comes_first.ensures ∙ c.if-not-comes_first.true in
    (up_stop (places_are_ordered a.layout a.s.now) _ _ _ _ c.loop-k.k c.loop-k.invariant ((c.loop-k.k - 1) / 2) (omega arith) stop, c.loop-k.invariant.moved)

pub loop-k-preserved : goal.loop-k-preserved
loop-k-preserved c =
    let o = places_are_ordered c.args.layout c.args.s.now in
    let on = sym c.comes_first.ensures ∙ c.if-not-comes_first.false in
    up_step o _ _ _ _ c.loop-k.k c.loop-k.invariant ((c.loop-k.k - 1) / 2) (omega arith) _ (omega arith) on c.requires.3 c.swap.ensures.after

pub returns : goal.returns
returns c =
    let a = c.args in
    (up_end (places_are_ordered a.layout a.s.now) _ _ _ _ c.loop-k.k c.loop-k.invariant (omega arith), c.loop-k.invariant.moved)
