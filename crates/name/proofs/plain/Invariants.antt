-- `name::plain` meets its contract: as long as all were plain, the bytes passed are. Assumes nothing.
use mathlib.Core.Path.{◌≡◌}
use mathlib.Core.Bool.{true}
use Prim.Native.Nat.{ℕ, ◌+◌, ◌<◌}
use Rattle.name.specs.Plain.{plain_at}
use Rattle.name.proofs.plain.Given as goal

abbrev pub invariant-loop-k : goal.invariant-loop-k
invariant-loop-k l = l.all ≡ true → (j : ℕ) → j < l.k → plain_at l.s (l.at + j) ≡ true
