-- `name::plain_inside` meets its contract: the blocks leave no byte out. The invariant: all is plain before the i-th block. Assumes nothing.
use mathlib.Core.Path.{◌≡◌}
use mathlib.Core.Bool.{true}
use Prim.Native.Nat.{ℕ, ◌*◌, ◌<◌}
use Rattle.name.specs.Plain.{plain_at}
use Rattle.name.proofs.plain_inside.Given as goal

abbrev pub invariant-loop-i : goal.invariant-loop-i
invariant-loop-i l = (k : ℕ) → k < 16 * l.i → plain_at l.s k ≡ true
