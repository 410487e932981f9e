-- `replay::asking::items` is safe and ends: it goes on only where a step brings the place nearer to the end.
use Rattle.std.proofs.Common.{◌-◌}
use Rattle.replay.proofs.asking.items.Given as goal

abbrev pub decreases-loop-place : goal.decreases-loop-place
decreases-loop-place g l = l.len - l.place
