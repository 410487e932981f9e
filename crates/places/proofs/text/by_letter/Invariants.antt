-- `places::text::by_letter` meets its contract: the order from i on is the order from the start on.
use mathlib.Core.Path.{◌≡◌}
use Prim.Native.Nat.{◌-◌}
use lib.ListN.{length}
use Rattle.places.proofs.Texts.{order_from}
use Rattle.places.proofs.text.by_letter.Given as goal

abbrev pub invariant-loop-order : goal.invariant-loop-order
invariant-loop-order l = order_from l.x l.y l.i ≡ order_from l.x l.y l.at

abbrev pub decreases-loop-order : goal.decreases-loop-order
decreases-loop-order l = length l.x - l.i
