-- `reply_lookup::asked::ask_reply` meets its contract: the layer's answer, told.
use mathlib.Core.Path.{sym, ap, ◌∙◌}
use Rattle.reply_lookup.specs.Asked.{ask_reply}
use Rattle.reply_lookup.proofs.Near.{ask_near}
use Rattle.reply_lookup.proofs.asked.ask_reply.Goals as goal

pub ask_told-requires : goal.ask_told-requires
ask_told-requires c = λ place r v e. ask_near c.args.kind c.args.file.now c.args.name.now (sym c.ask.ensures ∙ e)

pub returns : goal.returns
returns c = c.ask_told.ensures ∙ ap (ask_reply c.args.kind c.args.file.now) c.ask.ensures
