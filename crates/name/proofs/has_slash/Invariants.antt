-- `name::has_slash` meets its contract: a slash that is met stands in the name. Assumes nothing.
use Prim.Native.Nat.{◌-◌, ◌≤◌}
use Rattle.name.proofs.has_slash.Given as goal

abbrev pub invariant-loop-at : goal.invariant-loop-at
invariant-loop-at l = l.at ≤ l.n

abbrev pub decreases-loop-at : goal.decreases-loop-at
decreases-loop-at l = l.n - l.at
