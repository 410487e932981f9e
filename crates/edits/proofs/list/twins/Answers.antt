-- `edits::list::twins` meets its contract.
use mathlib.Core.Path.{sym, ◌∙◌}
use Rattle.edits.specs.List.{twins_of}
use Rattle.edits.proofs.list.twins.Goals as goal

pub returns-in-Some : goal.returns-in-Some
unfolding twins_of
returns-in-Some c = rw (sym c.first_twin.ensures ∙ c.in-Some.is)

pub returns-in-None : goal.returns-in-None
unfolding twins_of
returns-in-None c = rw (sym c.first_twin.ensures ∙ c.in-None.is)
