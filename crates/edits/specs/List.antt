-- A whole edit list.
use Rattle.std.specs.Prelude.{Bool, true, false, ◌||◌, List, [], ◌∷◌, ◌++◌, ℕ, zero, suc, ◌+◌, ltb, length, drop, Option, Some, None, Result, Ok, Err}
use Rattle.parse.specs.Choice.{if}
use Rattle.class.specs.Class.{Classes}
use Rattle.parse.specs.Limit.{over_limit}
use Rattle.places.specs.declared.name.Layout.TheVariants as layout
use Rattle.places.specs.Name.{standing_name}
use Rattle.places.specs.Order.{comes_first}
use Rattle.sort.specs.Sorted.{sorted}
use Rattle.sort.specs.Twin.{first_twin}
use Rattle.edits.specs.declared.list.ListFault.{ListFault}
use Rattle.edits.specs.declared.list.ListFault.TheVariants.{BadEdit, TooMany}
use Rattle.edit.specs.Edit.{edit_of, edit_fault_number}
use Rattle.edit.specs.declared.EditFault.{EditFault}
use Rattle.edits.specs.declared.list.NotPrepared.{NotPrepared}
use Rattle.edits.specs.declared.list.NotPrepared.TheVariants.{BadList, ShortIndex, TooLarge, Twins}

-- ---- the edits' places, or the first fault

pub data Listed : Type 0 where
  all : (places : List ℕ) → Listed
  bad : (why : ListFault) → Listed

abbrev pub with_place : ℕ → Listed → Listed
with_place place (all l) = all (place ∷ l)
with_place place (bad why) = bad why

abbrev pub listed_by : Result ℕ EditFault → ℕ → (ℕ → Listed) → Listed
listed_by (Ok size) place next = next size
listed_by (Err f) place next = bad (BadEdit place f)

-- "edits one after another"; "First fault in the list wins; 9 comes where that edit would begin": after so many turns no edit may begin
module _ (byte : Classes) (n : ℕ) (list : List ℕ) where
  unfoldable pub edits_from : ℕ → ℕ → Listed
  edits_from zero place = if (ltb place (length list)) (bad (TooMany place)) (all [])
  edits_from (suc turns) place =
      if (ltb place (length list))
      (listed_by (edit_of byte n (drop place list)) place (λ size. with_place place (edits_from turns (place + size))))
      (all [])

  -- "a 4,097th edit begins" is refused
  unfoldable pub edits_of : Listed
  edits_of = edits_from 4096 0

-- the number of edits, where k edits were counted before these; or the first fault
abbrev pub counted : ℕ → Listed → Result ℕ ListFault
counted k (all l) = Ok (k + length l)
counted k (bad why) = Err why

abbrev pub is_whole : Listed → Bool
is_whole (all l) = true
is_whole (bad why) = false

abbrev pub places_of : Listed → List ℕ
places_of (all l) = l
places_of (bad why) = []

-- ---- the index: "the index's first entries hold the edits' places in the list by name order, equal names in list order"

abbrev pub in_order : List ℕ → List ℕ → List ℕ
in_order list places = sorted (comes_first layout.Edit list) places

-- "11 tells the second place of the first equal pair"
abbrev pub twins_by : ℕ → Option ℕ → Result ℕ NotPrepared
twins_by k (Some place) = Err (Twins place)
twins_by k None = Ok k

unfoldable pub twins_of : List ℕ → ℕ → List ℕ → Result ℕ NotPrepared
twins_of list k index = twins_by k (first_twin (standing_name layout.Edit list) index)

abbrev pub prepared_by : List ℕ → ℕ → Listed → Result ℕ NotPrepared
prepared_by list room (all l) = if (ltb room (length l)) (Err ShortIndex) (twins_of list (length l) (in_order list l))
prepared_by list room (bad why) = Err (BadList why)

unfoldable pub prepared_of : Classes → ℕ → List ℕ → ℕ → Result ℕ NotPrepared
prepared_of byte n list room = if (over_limit (length list)) (Err TooLarge) (prepared_by list room (edits_of byte n list))

-- "before that it is unchanged; entries behind are never touched": a list that has a fault has no places, so nothing is put in front
unfoldable pub index_after : Classes → ℕ → List ℕ → List ℕ → List ℕ
index_after byte n list index =
    let places = places_of (edits_of byte n list) in
    if (over_limit (length list) || ltb (length index) (length places)) index (in_order list places ++ drop (length places) index)

-- the paper's number for each fault: an edit's, or "a 4,097th edit begins"
abbrev pub list_fault_number : ListFault → ℕ
list_fault_number (BadEdit place f) = edit_fault_number f
list_fault_number (TooMany place) = 9

-- the paper's number for each case
abbrev pub prepared_number : Result ℕ NotPrepared → ℕ
prepared_number (Ok k) = 0
prepared_number (Err (BadList why)) = list_fault_number why
prepared_number (Err ShortIndex) = 10
prepared_number (Err (Twins p)) = 11
prepared_number (Err TooLarge) = 17
