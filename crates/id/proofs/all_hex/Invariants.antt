-- `id::all_hex` meets its contract: behind a block of digits, the bytes that are left decide.
use Rattle.std.proofs.Common.{◌≡◌, length}
use Rattle.class.specs.Class.{is_hex}
use Rattle.id.proofs.Digits.{all}
use Rattle.id.proofs.all_hex.Given as goal

abbrev pub invariant-loop-left : goal.invariant-loop-left
invariant-loop-left l = all is_hex l.left ≡ all is_hex l.initial.left

abbrev pub decreases-loop-left : goal.decreases-loop-left
decreases-loop-left l = length l.left
