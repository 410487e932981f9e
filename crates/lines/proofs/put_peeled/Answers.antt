-- `lines::put_peeled` meets its contract: the three pieces, each put where the one before it ends, are the line.
use mathlib.Core.List.{[], ◌∷◌}
use native.Mathlib.Omega.{arith}
use Rattle.hex_digits.specs.Hex.{hex_text}
use Rattle.lines.proofs.Lines.{three_put}
use Rattle.lines.proofs.put_peeled.Goals as goal

pub returns : goal.returns
returns c =
    let a = c.args in
    three_put a.out.now _ _ a.at _ _ (omega (arith, c.well_formed)) _ _ (94 ∷ []) (hex_text a.id.now) (10 ∷ [])
    c.byte-from.ensures c.hex-behind_id.ensures c.byte.ensures
