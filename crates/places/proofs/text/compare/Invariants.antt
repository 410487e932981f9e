-- `places::text::compare` meets its contract: sixteen bytes that are alike are skipped, the rest goes letter by letter.
use mathlib.Core.Path.{◌≡◌}
use Prim.Native.Nat.{◌-◌}
use lib.ListN.{length}
use Rattle.places.proofs.Texts.{order_from}
use Rattle.places.proofs.text.compare.Given as goal

abbrev pub invariant-loop-i : goal.invariant-loop-i
invariant-loop-i l = order_from l.x l.y l.i ≡ order_from l.x l.y 0

abbrev pub decreases-loop-i : goal.decreases-loop-i
decreases-loop-i l = length l.x - l.i
