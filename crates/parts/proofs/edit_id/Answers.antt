-- `parts::edit_id` meets its contract.
use mathlib.Core.Path.{ap, ◌∙◌}
use Prim.Native.Nat.{◌/◌}
use native.Mathlib.Nat.{sub-zero}
use lib.ListN.{take}
use Rattle.parts.proofs.edit_id.Goals as goal

pub returns : goal.returns
returns c =
    let half = c.args.n / 2 in
    c.between.ensures ∙ ap (λ k. take k c.behind_name.result.now) (sub-zero half) ∙ ap (take half) c.behind_name.ensures
