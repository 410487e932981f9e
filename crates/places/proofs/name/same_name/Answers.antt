-- `places::name::same_name` meets its contract.
use mathlib.Core.Path.{sym, ap, ◌∙◌}
use Rattle.compare.proofs.Orders.{is_equal, same_by_order}
use Rattle.places.specs.Name.{standing_name}
use Rattle.places.proofs.name.same_name.Goals as goal

pub returns : goal.returns
returns c =
    let name = standing_name c.args.layout c.args.s.now in
    c.is_eq.ensures ∙ ap is_equal c.compare.ensures ∙ sym (same_by_order (name c.args.p) (name c.args.q))
