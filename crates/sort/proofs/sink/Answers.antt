-- `sort::sink` meets its contract: what comes down and what rises are exchanges.
use Rattle.sort.proofs.Swaps.{moved_twice}
use Rattle.sort.proofs.sink.Goals as goal

pub returns : goal.returns
returns c =
    let up = c.rise in
    (up.ensures.0, moved_twice _ _ _ _ c.descend-leaf.ensures.0.moved up.ensures.1)
