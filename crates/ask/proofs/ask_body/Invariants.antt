-- `ask::ask_body` meets its contract: what the items from the place reached on come to decides the whole.
use mathlib.Core.Path.{◌≡◌}
use Prim.Native.Nat.{◌-◌, ◌≤◌}
use lib.ListN.{length}
use Rattle.class.specs.Class.{paper}
use Rattle.ask.specs.Ask.{ask_body}
use Rattle.ask.proofs.Seeking.{ask_from}
use Rattle.ask.proofs.ask_body.Given as goal

abbrev pub invariant-loop-found : goal.invariant-loop-found
invariant-loop-found l = (l.count ≤ l.place) × (ask_from paper l.n l.file l.name l.place l.count l.last ≡ ask_body paper l.n l.file l.body l.name)

abbrev pub decreases-loop-found : goal.decreases-loop-found
decreases-loop-found l = length l.file - l.place
