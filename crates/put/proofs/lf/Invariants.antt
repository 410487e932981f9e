-- `put::lf` meets its contract: what is left of src, put behind what is put already, makes what is wanted.
use mathlib.Core.Path.{◌≡◌}
use Prim.Native.Nat.{◌-◌, ◌≤◌}
use lib.ListN.{length, drop}
use Rattle.put.specs.Put.{over, place_behind}
use Rattle.put.specs.Cr.{without_cr}
use Rattle.put.proofs.lf.Given as goal

abbrev pub invariant-loop-at : goal.invariant-loop-at
invariant-loop-at l = l.from ≤ length l.src
    × (length l.out ≡ length l.initial.out)
    × (over l.out l.to (without_cr (drop l.from l.src)) ≡ over l.initial.out l.at (without_cr l.src))
    × (place_behind l.to (length (without_cr (drop l.from l.src))) ≡ place_behind l.at (length (without_cr l.src)))

abbrev pub decreases-loop-at : goal.decreases-loop-at
decreases-loop-at l = length l.src - l.from
