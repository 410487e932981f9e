-- The merge: what it answers, the new file, and the lent memory afterwards.
use Rattle.std.specs.Prelude.{Bool, true, false, not, ◌&&◌, ◌||◌, List, [], ◌∷◌, ◌++◌, ℕ, eqb, ltb, length, drop, Result, Ok, Err}
use Rattle.parse.specs.Choice.{if}
use Rattle.class.specs.Class.{Classes, paper}
use Rattle.parse.specs.Limit.{admission, admit}
use Rattle.compare.specs.Order.{order_of, by_order}
use Rattle.header.specs.Header.{header_of, headed}
use Rattle.decode.specs.Entry.{Entry}
use Rattle.iter.specs.Entries.{entries_of}
use Rattle.checks.specs.Check.{check_of, refusal_number}
use Rattle.iter.specs.Items.{items}
use Rattle.compare.specs.Prefix.{same}
use Rattle.edits.specs.List.{edits_of, places_of, in_order, prepared_of, index_after, list_fault_number}
use Rattle.lines.specs.Lines.{header_line, file_of}
use Rattle.merge.specs.Override.{Override, edits_at}
use Rattle.checks.specs.declared.Refusal.{Refusal}
use Rattle.edits.specs.declared.list.NotPrepared.{NotPrepared}
use Rattle.edits.specs.declared.list.NotPrepared.TheVariants as list
use Rattle.parse.specs.declared.limit.NotAdmitted.{NotAdmitted}
use Rattle.parse.specs.declared.limit.NotAdmitted.TheVariants as admission-is
use Rattle.merge.specs.declared.NotMerged.{NotMerged}
use Rattle.merge.specs.declared.NotMerged.TheVariants.{BadList, NoRecord, NothingToDo, Refused, ShortIndex, ShortOutput, TooLarge, Twins, UnknownKind}

-- ---- the new records

-- "the old records overridden by the edits, in name order": both come in name order, and where both have a name the edit counts
abbrev pub overridden : List Entry → List Override → List Entry
overridden [] [] = []
overridden [] (e ∷ es) = e.new ++ overridden [] es
overridden (r ∷ rs) [] = r ∷ rs
overridden (r ∷ rs) (e ∷ es) =
    by_order (order_of r.name e.name) (r ∷ overridden rs (e ∷ es)) (e.new ++ overridden rs es) (e.new ++ overridden (r ∷ rs) es)

-- ---- "13: no update, and no delete names an old record."

abbrev pub has_name : List ℕ → List Entry → Bool
has_name name [] = false
has_name name (r ∷ rs) = same r.name name || has_name name rs

abbrev pub is_idle : List Entry → List Override → Bool
is_idle olds [] = true
is_idle olds (e ∷ es) = eqb (length e.new) 0 && (not (has_name e.name olds) && is_idle olds es)

-- ---- the new file

-- "Success: the 46 bytes [..] with LF, then the old records overridden by the edits, in name order": this is where the header is chosen
unfoldable pub new_file : List Entry → List Override → List ℕ
new_file olds edits = file_of header_line (overridden olds edits)

-- "13, 14, 12": nothing to do; no record remains; the new file is longer than the output
unfoldable pub finished : List Entry → List Override → ℕ → Result ℕ NotMerged
finished olds edits room =
    if (is_idle olds edits) (Err NothingToDo)
    (if (eqb (length (overridden olds edits)) 0) (Err NoRecord)
    (if (ltb room (length (new_file olds edits))) (Err ShortOutput) (Ok (length (new_file olds edits)))))

-- ---- what an answer means for the output

-- the paper's number for each case
abbrev pub merge_number : Result ℕ NotMerged → ℕ
merge_number (Ok len) = 0
merge_number (Err UnknownKind) = 1
merge_number (Err TooLarge) = 17
merge_number (Err (BadList why)) = list_fault_number why
merge_number (Err ShortIndex) = 10
merge_number (Err (Twins place)) = 11
merge_number (Err (Refused why)) = refusal_number why
merge_number (Err NothingToDo) = 13
merge_number (Err NoRecord) = 14
merge_number (Err ShortOutput) = 12

-- "A refused merge leaves the output untouched"; "The answer gives the length; output behind it is unchanged": 0 alone writes the new file
abbrev pub output_by : List ℕ → List ℕ → Result ℕ NotMerged → List ℕ
output_by new out answer = if (eqb (merge_number answer) 0) (new ++ drop (length new) out) out

-- ---- the answer

-- the refusals of the call and of the list, as the merge gives them
abbrev pub not_admitted : NotAdmitted → NotMerged
not_admitted admission-is.UnknownKind = UnknownKind
not_admitted admission-is.TooLarge = TooLarge

abbrev pub not_prepared : NotPrepared → NotMerged
not_prepared (list.BadList why) = BadList why
not_prepared list.ShortIndex = ShortIndex
not_prepared (list.Twins place) = Twins place
not_prepared list.TooLarge = TooLarge

-- "2, 4/6 by place", where document 02 has 41 to 45 for 4; these are the old records
abbrev pub judged_by : List Entry → List Override → ℕ → Result ℕ Refusal → Result ℕ NotMerged
judged_by olds edits room (Ok count) = finished olds edits room
judged_by olds edits room (Err why) = Err (Refused why)

module _ (byte : Classes) (n : ℕ) (file : List ℕ) where
  -- what the records behind the old file's header say: "old ids as read"
  unfoldable pub old_entries : List Entry
  old_entries = headed (header_of byte file) (λ h. entries_of n (items byte n (drop h.body file))) (λ text. [])

  unfoldable pub judged : List Override → ℕ → Result ℕ NotMerged
  judged edits room = judged_by old_entries edits room (check_of byte n file)

  module _ (list : List ℕ) where
    -- the edits in name order
    unfoldable pub edits_in_order : List Override
    edits_in_order = edits_at n list (in_order list (places_of (edits_of byte n list)))

    -- "7/8/9 by place, 10, 11"
    abbrev pub listed : ℕ → Result ℕ NotPrepared → Result ℕ NotMerged
    listed room (Ok k) = judged edits_in_order room
    listed room (Err why) = Err (not_prepared why)

    unfoldable pub merge_of : ℕ → ℕ → Result ℕ NotMerged
    merge_of indexRoom room = listed room (prepared_of byte n list indexRoom)

    unfoldable pub output_of : ℕ → List ℕ → List ℕ
    output_of indexRoom out = output_by (new_file old_entries edits_in_order) out (merge_of indexRoom (length out))

-- "Order: 1, 17, 7/8/9 by place, 10, 11, 2, 4/6 by place, 13, 14, 12.", where document 02 has 41 to 45 for 4
unfoldable pub merge_answer : ℕ → List ℕ → List ℕ → ℕ → ℕ → Result ℕ NotMerged
merge_answer kind file list indexRoom room =
    admit (admission kind (length file) (length list)) (λ n. merge_of paper n file list indexRoom room) (Err UnknownKind) (Err TooLarge)

-- ---- the lent memory afterwards

unfoldable pub output_after : ℕ → List ℕ → List ℕ → ℕ → List ℕ → List ℕ
output_after kind file list indexRoom out =
    admit (admission kind (length file) (length list)) (λ n. output_of paper n file list indexRoom out) out out

-- "From 11 on the index's first entries hold the edits' places in the list by name order": see `indexAfter`
unfoldable pub index_answer : ℕ → List ℕ → List ℕ → List ℕ → List ℕ
index_answer kind file list index =
    admit (admission kind (length file) (length list)) (λ n. index_after paper n list index) index index
