-- `name::plain_inside` meets its contract: the blocks leave no byte out. Assumes nothing.
use mathlib.Core.Path.{◌≡◌}
use mathlib.Core.Bool.{true}
use Prim.Native.Nat.{ℕ, ◌+◌, ◌*◌, ◌-◌, ◌<◌}
use native.Mathlib.Omega.{arith}
use lib.ListN.{length}
use Rattle.compare.proofs.Below.{below_join}
use Rattle.name.specs.Plain.{plain_at}
use Rattle.name.proofs.plain_inside.Goals as goal

pub loop-i-preserved : goal.loop-i-preserved
loop-i-preserved c =
    let s = c.args.s.now in
    let here : (k : ℕ) → k < 16 → plain_at s (16 * c.loop-i.i + k) ≡ true = c.plain.ensures c.if-not-plain.false in
    λ k h. below_join (λ j. plain_at s j ≡ true) (16 * c.loop-i.i) (16 * c.loop-i.i) 16 (omega arith) c.loop-i.invariant here k (omega arith)

pub returns : goal.returns
returns c =
    let s = c.args.s.now in
    λ e k h. below_join (λ j. plain_at s j ≡ true) (16 * c.loop-i.i) (length s - 17) 16 (omega arith) c.loop-i.invariant (c.plain-2.ensures e) k (omega arith)
