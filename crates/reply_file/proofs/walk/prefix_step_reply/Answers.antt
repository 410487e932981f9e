-- `reply_file::walk::prefix_step_reply` asks what it may of `step_told`: a record lies under the size limit.
use mathlib.Core.Path.{sym, ◌∙◌}
use Rattle.reply_file.proofs.Near.{step_near}
use Rattle.reply_file.proofs.walk.prefix_step_reply.Goals as goal

pub step_told-requires : goal.step_told-requires
step_told-requires c = λ r next e. step_near c.args.kind c.args.prefix.now c.args.bytes.now c.args.place 0 (sym c.next_with_prefix.ensures ∙ e)
