-- `put::digits` meets its contract: the digits of what is left of raw, put behind what is put already, make what is wanted.
use mathlib.Core.Path.{◌≡◌}
use lib.ListN.{length, drop}
use Rattle.put.specs.Put.{over}
use Rattle.hex_digits.specs.Hex.{hex_text}
use Rattle.put.proofs.digits.Given as goal

abbrev pub invariant-loop-b : goal.invariant-loop-b
invariant-loop-b l = (length l.out ≡ length l.initial.out)
    × (over l.out l.to (hex_text (drop l.b-index l.raw)) ≡ over l.initial.out l.at (hex_text l.raw))
