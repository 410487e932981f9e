-- `tell::parts_at` meets its contract: what is not over the limit is under it.
use mathlib.Core.Path.{sym, ◌∙◌}
use Rattle.tell.proofs.Near.{within}
use Rattle.tell.proofs.parts_at.Goals as goal

pub name_at-requires : goal.name_at-requires
name_at-requires c = within _ (sym c.over_limit.ensures ∙ c.if-over_limit.false)

pub peeled_at-requires : goal.peeled_at-requires
peeled_at-requires c = (within _ (sym c.over_limit.ensures ∙ c.if-over_limit.false), sym c.beyond_limit.ensures ∙ c.if-beyond_limit.false)
