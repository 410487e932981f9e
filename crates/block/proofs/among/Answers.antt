-- `block::among` meets its contract: what was met so far is said of the bytes passed.
use Rattle.std.proofs.Common.{rules}
use Rattle.block.proofs.Members.{among_turn}
use Rattle.block.proofs.among.Goals as goal

pub loop-x-preserved : goal.loop-x-preserved
loop-x-preserved c = among_turn c.args.b c.args.s.now c.loop-x.x-index c.loop-x.any (search rules) c.loop-x.invariant
