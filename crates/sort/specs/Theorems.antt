-- What holds of any layout, any bytes and any list of places. proofs/Theorems.antt has the proofs.
use Rattle.std.specs.Prelude.{◌≡◌, List, ℕ, Some, None}
use Rattle.places.specs.declared.name.Layout.{Layout}
use Rattle.places.specs.Laws.{StrictOrder, InOrder, NamesRise, AllDifferent, HasTwin}
use Rattle.places.specs.Name.{standing_name}
use Rattle.places.specs.Order.{comes_first}
use Rattle.sort.specs.Sorted.{sorted}
use Rattle.sort.specs.Twin.{first_twin}

-- coming first is a strict total order of places
abbrev pub PlacesAreOrdered : Type 0
PlacesAreOrdered = (layout : Layout) (s : List ℕ) → StrictOrder (comes_first layout s)

-- the sorted list is the list in order
abbrev pub SortedIsInOrder : Type 0
SortedIsInOrder = (layout : Layout) (s l : List ℕ) → InOrder (comes_first layout s) l (sorted (comes_first layout s) l)

-- and no other list is
abbrev pub NoOtherOrder : Type 0
NoOtherOrder = (layout : Layout) (s l a : List ℕ) → InOrder (comes_first layout s) l a → a ≡ sorted (comes_first layout s) l

-- where a sorted list has no first twin, its names rise
abbrev pub NoTwinNamesRise : Type 0
NoTwinNamesRise =
    (layout : Layout) (s l : List ℕ)
    → first_twin (standing_name layout s) (sorted (comes_first layout s) l) ≡ None
    → NamesRise (standing_name layout s) (sorted (comes_first layout s) l)

-- and all its names are different
abbrev pub NoTwinAllDifferent : Type 0
NoTwinAllDifferent =
    (layout : Layout) (s l : List ℕ)
    → first_twin (standing_name layout s) (sorted (comes_first layout s) l) ≡ None
    → AllDifferent (standing_name layout s) (sorted (comes_first layout s) l)

-- where any list has a first twin, that is the twin of the entry before it
abbrev pub TwinIsTwin : Type 0
TwinIsTwin = (layout : Layout) (s l : List ℕ) (p : ℕ) → first_twin (standing_name layout s) l ≡ Some p → HasTwin (standing_name layout s) l p
