-- `replay::question::through_line_end` leaves fewer bytes: a line has a byte where there is one.
use Rattle.std.proofs.Common.{arith}
use Rattle.parse.proofs.Fronts.{line_len_some}
use Rattle.replay.proofs.question.through_line_end.Goals as goal

pub returns-clause-shrinks : goal.returns-clause-shrinks
returns-clause-shrinks c some = c.front.ensures.shrinks (omega (arith, c.line_end.ensures, line_len_some c.args.s.now some)) some
