-- `reply_lookup::lookup::lookup_reply` meets its contract: the layer's answer, told.
use mathlib.Core.Path.{sym, ap, ◌∙◌}
use Rattle.reply_lookup.specs.Lookup.{lookup_reply}
use Rattle.reply_lookup.proofs.Near.{lookup_near}
use Rattle.reply_lookup.proofs.lookup.lookup_reply.Goals as goal

pub lookup_told-requires : goal.lookup_told-requires
lookup_told-requires c = λ place r e. lookup_near c.args.kind c.args.body.now c.args.name.now (sym c.find.ensures ∙ e)

pub returns : goal.returns
returns c = c.lookup_told.ensures ∙ ap (lookup_reply c.args.kind) c.find.ensures
