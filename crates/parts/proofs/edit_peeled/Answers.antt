-- `parts::edit_peeled` meets its contract.
use mathlib.Core.Path.{ap, ◌∙◌}
use Prim.Native.Nat.{◌/◌}
use lib.ListN.{take, drop}
use Rattle.parts.proofs.Parts.{part_is}
use Rattle.parts.proofs.edit_peeled.Goals as goal

pub returns : goal.returns
returns c =
    let half = c.args.n / 2 in
    c.between.ensures ∙ part_is c.behind_name.result.now half half ∙ ap (λ s. take half (drop half s)) c.behind_name.ensures
