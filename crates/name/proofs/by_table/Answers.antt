-- `name::by_table` meets its contract: the table says what the paper says. Assumes nothing.
use mathlib.Core.Path.{◌∙◌}
use Rattle.class.proofs.Classes.{by_paper}
use Rattle.name.specs.Name.{valid_name}
use Rattle.name.proofs.by_table.Goals as goal

pub returns : goal.returns
returns c =
    c.by_one.ensures ∙ by_paper (λ byte. valid_name byte c.args.s.now) c.table.ensures
