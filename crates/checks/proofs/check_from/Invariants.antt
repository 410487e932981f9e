-- `checks::check_from` meets its contract: the items from the place reached on, judged after those before, decide the whole.
use mathlib.Core.Path.{◌≡◌}
use Prim.Native.Nat.{◌-◌, ◌≤◌}
use lib.ListN.{length, drop}
use Rattle.class.specs.Class.{paper}
use Rattle.iter.specs.Items.{items}
use Rattle.checks.specs.Check.{judge, judge_from, count_before}
use Rattle.checks.proofs.check_from.Given as goal

abbrev pub invariant-loop-found : goal.invariant-loop-found
invariant-loop-found l = (l.count ≤ l.place) × (judge l.n l.place l.count l.last (items paper l.n (drop l.place l.file)) ≡ judge_from paper l.n l.file l.from (count_before l.passed l.from) l.name)

abbrev pub decreases-loop-found : goal.decreases-loop-found
decreases-loop-found l = length l.file - l.place
