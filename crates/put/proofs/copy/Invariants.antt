-- `put::copy` meets its contract: what is left of src, put from at + i on, makes what is wanted.
use mathlib.Core.Path.{◌≡◌}
use Prim.Native.Nat.{◌+◌}
use lib.ListN.{drop}
use Rattle.put.specs.Put.{over}
use Rattle.put.proofs.copy.Given as goal

abbrev pub invariant-loop-i : goal.invariant-loop-i
invariant-loop-i l = over l.out (l.at + l.i) (drop l.i l.src) ≡ over l.initial.out l.at l.src
