-- `replay::question::digits` is safe and ends: each digit leaves fewer bytes.
use Rattle.std.proofs.Common.{length}
use Rattle.replay.proofs.question.digits.Given as goal

abbrev pub decreases-loop-rest : goal.decreases-loop-rest
decreases-loop-rest l = length l.rest
