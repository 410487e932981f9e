-- The theorems of specs/Theorems.antt.
use Rattle.places.specs.Name.{standing_name}
use Rattle.places.specs.Order.{comes_first}
use Rattle.sort.specs.Sorted.{sorted}
use Rattle.sort.specs.Theorems.{PlacesAreOrdered, SortedIsInOrder, NoOtherOrder, NoTwinNamesRise, NoTwinAllDifferent, TwinIsTwin}
use Rattle.places.proofs.Places.{places_ordered}
use Rattle.sort.proofs.Sorting.{sorted_in_order, only_order}
use Rattle.sort.proofs.Twins.{names_rise, all_different, is_twin}

pub places_are_ordered : PlacesAreOrdered
places_are_ordered layout s = places_ordered (standing_name layout s)

pub sorted_is_in_order : SortedIsInOrder
sorted_is_in_order layout s = sorted_in_order (places_are_ordered layout s)

pub no_other_order : NoOtherOrder
no_other_order layout s = only_order (places_are_ordered layout s)

pub no_twin_names_rise : NoTwinNamesRise
no_twin_names_rise layout s l =
    names_rise (standing_name layout s) (sorted (comes_first layout s) l) (sorted_is_in_order layout s l).ascending

pub no_twin_all_different : NoTwinAllDifferent
no_twin_all_different layout s l =
    all_different (standing_name layout s) (sorted (comes_first layout s) l) (sorted_is_in_order layout s l).ascending

pub twin_is_twin : TwinIsTwin
twin_is_twin layout s = is_twin (standing_name layout s)
