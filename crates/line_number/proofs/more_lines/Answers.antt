-- `line_number::more_lines` meets its contract.
use Rattle.std.proofs.Common.{◌+◌, ◌∙◌}
use Rattle.line_number.proofs.Feeds.{most_is}
use Rattle.line_number.proofs.more_lines.Goals as goal

pub returns : goal.returns
returns c = c.saturating_add.ensures ∙ most_is (c.args.line + c.args.lines)
