-- `parts::behind_name` meets its contract: behind a length that can't be read stands nothing.
use mathlib.Core.Path.{sym, ◌∙◌}
use Prim.Native.Nat.{◌+◌}
use native.Mathlib.Omega.{arith}
use Rattle.parse.proofs.Slices.{rest_is}
use Rattle.parts.specs.Parts.{behind_name}
use Rattle.length.proofs.Groups.{length_small}
use Rattle.parts.proofs.behind_name.Goals as goal

pub returns-in_default : goal.returns-in_default
unfolding behind_name
returns-in_default c = rw (sym c.length_at.ensures ∙ c.in_default.is)

pub overflow_add-next : goal.overflow_add-next
overflow_add-next c =
    omega (arith, length_small c.args.list.now (c.args.place + 1) (sym c.length_at.ensures ∙ c.in-Some.is))

pub returns : goal.returns
unfolding behind_name
returns c =
    let a = c.args in
    rw (sym c.length_at.ensures ∙ c.in-Some.is) (c.between.ensures ∙ rest_is a.list.now (c.in-Some.field-0.next + c.in-Some.field-0.value))
