-- Worked examples of the definitions, computed.
use mathlib.Core.Path.{◌≡◌, refl}
use mathlib.Core.List.{List, [], ◌∷◌}
use Prim.Native.Nat.{ℕ}
use lib.ListN.{replicate}
use Rattle.class.specs.Class.{is_line_end}
use Rattle.places.specs.declared.name.Layout.TheVariants.{Edit, Record}
use Rattle.length.specs.Length.{length_at}
use Rattle.parts.specs.Parts.{edit_name}
use Rattle.places.specs.Name.{text_of, standing_name}
use Rattle.places.specs.Order.{before, comes_first}
use Rattle.sort.specs.Sorted.{sorted}
use Rattle.sort.specs.Twin.{first_twin}
use Rattle.std.specs.declared.option.Option.TheVariants.{None, Some}

-- ---- edits: `b`, `a`, `ab`, `a`, at the places 0, 3, 6 and 10, and one of no bytes at 13

edits : List ℕ
edits = 1 ∷ 1 ∷ 98 ∷ 1 ∷ 1 ∷ 97 ∷ 1 ∷ 2 ∷ 97 ∷ 98 ∷ 2 ∷ 1 ∷ 97 ∷ 1 ∷ 0 ∷ []

the_name_of_an_edit : standing_name Edit edits 6 ≡ 97 ∷ 98 ∷ []
unfolding edits length_at edit_name
the_name_of_an_edit = refl

no_name_beyond_the_end : standing_name Edit edits 4000000000 ≡ []
unfolding edits length_at edit_name
no_name_beyond_the_end = refl

-- a second group counts 128 bytes each: 130 is 2 and 1
a_long_name : standing_name Edit (1 ∷ 130 ∷ 1 ∷ replicate 200 97) 0 ≡ replicate 130 97
unfolding length_at edit_name
a_long_name = refl

edits_in_order_lem : sorted (comes_first Edit edits) (10 ∷ 0 ∷ 3 ∷ 13 ∷ 6 ∷ []) ≡ 13 ∷ 3 ∷ 10 ∷ 6 ∷ 0 ∷ []
unfolding edits length_at edit_name before sorted
edits_in_order_lem = refl

the_second_of_two : first_twin (standing_name Edit edits) (13 ∷ 3 ∷ 10 ∷ 6 ∷ 0 ∷ []) ≡ Some 10
unfolding edits length_at edit_name first_twin
the_second_of_two = refl

no_neighbours_alike : first_twin (standing_name Edit edits) (3 ∷ 6 ∷ 10 ∷ []) ≡ None
unfolding edits length_at edit_name first_twin
no_neighbours_alike = refl

-- ---- records of ids of two digits: `b` with LF, `a` with CR LF, `ab` up to the end, at the places 0, 5 and 11

records : List ℕ
records = 48 ∷ 48 ∷ 32 ∷ 98 ∷ 10 ∷ 49 ∷ 49 ∷ 32 ∷ 97 ∷ 13 ∷ 10 ∷ 50 ∷ 50 ∷ 32 ∷ 97 ∷ 98 ∷ []

the_name_of_a_record : standing_name (Record 2) records 5 ≡ 97 ∷ []
unfolding records text_of is_line_end
the_name_of_a_record = refl

records_in_order : sorted (comes_first (Record 2) records) (0 ∷ 5 ∷ 11 ∷ []) ≡ 5 ∷ 11 ∷ 0 ∷ []
unfolding records text_of is_line_end before sorted
records_in_order = refl
