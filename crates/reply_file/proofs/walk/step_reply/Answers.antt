-- `reply_file::walk::step_reply` asks what it may of `step_told`: a record lies under the size limit.
use mathlib.Core.Path.{sym, ◌∙◌}
use mathlib.Core.List.{[]}
use Rattle.line_number.specs.LineNumber.{line_number}
use Rattle.reply_file.proofs.Near.{step_near}
use Rattle.reply_file.proofs.walk.step_reply.Goals as goal

pub step_told-requires : goal.step_told-requires
step_told-requires c =
    let a = c.args in
    λ r next e. step_near a.kind [] a.bytes.now a.place (line_number a.bytes.now a.place) (sym c.next.ensures ∙ e)
