-- `parts::edit_name` meets its contract: without a length there is no name.
use mathlib.Core.Path.{sym, ◌∙◌}
use Prim.Native.Nat.{◌+◌}
use native.Mathlib.Omega.{arith}
use Rattle.length.proofs.Groups.{length_small}
use Rattle.parts.specs.Parts.{edit_name}
use Rattle.parts.proofs.Parts.{part_is, name_there}
use Rattle.parts.proofs.edit_name.Goals as goal

pub returns-in_default : goal.returns-in_default
unfolding edit_name
returns-in_default c = rw (sym c.length_at.ensures ∙ c.in_default.is)

pub overflow_add-next : goal.overflow_add-next
overflow_add-next c =
    omega (arith, length_small c.args.list.now (c.args.place + 1) (sym c.length_at.ensures ∙ c.in-Some.is))

pub returns : goal.returns
returns c =
    let a = c.args in
    c.between.ensures
    ∙ part_is a.list.now c.in-Some.field-0.next c.in-Some.field-0.value
    ∙ sym (name_there a.list.now a.place (sym c.length_at.ensures ∙ c.in-Some.is))
