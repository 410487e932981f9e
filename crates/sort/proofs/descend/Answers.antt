-- `sort::descend` meets its contract: the entry comes down from one place to the next.
use Rattle.std.proofs.lemmas.List.{set-get_or}
use Rattle.sort.proofs.Descending.{down_start, down_step}
use Rattle.sort.proofs.descend.Goals as goal

pub loop-k-init : goal.loop-k-init
loop-k-init c =
    down_start _ c.args.index.now c.args.root c.args.n c.requires.0 c.requires.2

pub loop-k-preserved : goal.loop-k-preserved
loop-k-preserved c =
    let child = c.larger_child-child in
    down_step _ c.args.index.now _ _ c.loop-k.index _ c.loop-k.k child.result c.loop-k.invariant child.ensures c.requires.1 (simp (set-get_or, c.swap.ensures.after))
