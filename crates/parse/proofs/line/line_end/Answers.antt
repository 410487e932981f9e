-- `parse::line::line_end` meets its contract.
use Rattle.std.proofs.Common.{arith}
use Rattle.parse.proofs.Runs.{line_behind, line_last}
use Rattle.parse.proofs.line.line_end.Goals as goal

pub returns-then-feed-s : goal.returns-then-feed-s
returns-then-feed-s c = omega (arith, line_behind c.args.s.now c.args.at (omega arith))

pub returns : goal.returns
returns c = omega (arith, line_last c.args.s.now c.args.at (omega arith))
