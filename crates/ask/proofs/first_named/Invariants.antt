-- `ask::first_named` meets its contract: what is sought from the place reached on decides the whole.
use mathlib.Core.Path.{◌≡◌}
use Prim.Native.Nat.{◌-◌}
use lib.ListN.{length}
use Rattle.class.specs.Class.{paper}
use Rattle.ask.specs.Ask.{sought_from}
use Rattle.ask.proofs.first_named.Given as goal

abbrev pub invariant-loop-place : goal.invariant-loop-place
invariant-loop-place l = sought_from paper l.n l.file l.place l.name ≡ sought_from paper l.n l.file l.from l.name

abbrev pub decreases-loop-place : goal.decreases-loop-place
decreases-loop-place l = length l.file - l.place
