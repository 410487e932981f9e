-- `id::block` meets its contract: what was met so far and the bytes that are left make the whole.
use Rattle.std.proofs.Common.{◌≡◌, drop}
use mathlib.Core.Bool.{◌&&◌}
use Rattle.class.specs.Class.{is_hex}
use Rattle.id.proofs.Digits.{all}
use Rattle.id.proofs.block.Given as goal

abbrev pub invariant-loop-b : goal.invariant-loop-b
invariant-loop-b l = (l.all && all is_hex (drop l.b-index l.digits)) ≡ all is_hex l.digits
