-- `sort::twin::first_twin` meets its contract: the first twin is the first of the entries that are left.
use mathlib.Core.Path.{◌≡◌}
use Rattle.std.specs.Slice.Iter.{windows_size, windows_rest}
use Rattle.places.specs.Name.{standing_name}
use Rattle.sort.specs.Twin.{first_twin}
use Rattle.sort.proofs.twin.first_twin.Given as goal

abbrev pub invariant-loop-pair : goal.invariant-loop-pair
invariant-loop-pair l =
    (windows_size l.pair-iterator ≡ 2)
    × (first_twin (standing_name l.layout l.s) (windows_rest l.pair-iterator) ≡ first_twin (standing_name l.layout l.s) l.index)
