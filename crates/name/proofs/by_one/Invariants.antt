-- `name::by_one` meets its contract. The invariant: the name is valid exactly if its bytes from i on pass, and
-- `.lock` ends no component that ends at i or behind it. Assumes nothing.
use mathlib.Core.Path.{◌≡◌}
use mathlib.Core.Bool.{not, ◌&&◌}
use lib.ListN.{take, drop}
use Rattle.class.specs.Class.{classes_of}
use Rattle.name.specs.Name.{valid_name}
use Rattle.name.proofs.Components.{locked}
use Rattle.name.proofs.OnePass.{pass}
use Rattle.name.proofs.by_one.Given as goal

abbrev pub invariant-loop-i : goal.invariant-loop-i
invariant-loop-i l = valid_name (classes_of l.t) l.s ≡ (pass (classes_of l.t) l.slash l.before (drop l.i l.s) && not (locked (take l.i l.s) (drop l.i l.s)))
