-- `reply_file::walk::walk_reply` asks what it may of `step_told`: a record lies under the size limit.
use mathlib.Core.Path.{sym, ap, ◌∙◌}
use mathlib.Core.List.{[]}
use Rattle.walker.specs.declared.Walked.{Walked}
use Rattle.reply_file.proofs.Near.{step_near}
use Rattle.reply_file.proofs.walk.walk_reply.Goals as goal

pub step_told-requires : goal.step_told-requires
step_told-requires c =
    let a = c.args in
    λ r next e. step_near a.kind [] a.bytes.now a.place a.line (sym (ap (λ (w : Walked). w.answer) c.walk-walked.ensures) ∙ e)
