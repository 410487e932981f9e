-- `lines::put_record` meets its contract: the four pieces, each put where the one before it ends, are the line.
use mathlib.Core.List.{[], ◌∷◌}
use native.Mathlib.Omega.{arith}
use Rattle.hex_digits.specs.Hex.{hex_text}
use Rattle.lines.proofs.Lines.{four_put}
use Rattle.lines.proofs.put_record.Goals as goal

pub returns : goal.returns
returns c =
    let a = c.args in
    four_put a.out.now _ _ a.at _ _ (omega (arith, c.well_formed)) _ _ _ _ (hex_text a.id.now) (32 ∷ []) a.name.now (10 ∷ [])
    c.hex-space.ensures c.byte-from.ensures c.bytes-behind_name.ensures c.byte.ensures
