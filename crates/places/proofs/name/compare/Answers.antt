-- `places::name::compare` meets its contract, layout by layout.
use mathlib.Core.Path.{◌∙◌}
use Rattle.places.proofs.name.compare.Goals as goal

pub returns-in-Edit : goal.returns-in-Edit
returns-in-Edit c = c.compare.ensures ∙ rw (c.edit_name-in-Edit.ensures, c.edit_name.ensures, c.in-Edit.is)

pub returns-in-Record : goal.returns-in-Record
returns-in-Record c = c.compare-in-Record.ensures ∙ rw (c.behind_id-in-Record.ensures, c.behind_id.ensures, c.in-Record.is)
