-- `block::among`: what was met so far is said of the bytes passed.
use Rattle.std.proofs.Common.{◌≡◌, take}
use Rattle.block.specs.Among.{among}
use Rattle.block.proofs.among.Given as goal

abbrev pub invariant-loop-x : goal.invariant-loop-x
invariant-loop-x l = l.any ≡ among l.b (take l.x-index l.s)
