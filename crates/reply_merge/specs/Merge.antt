-- What the merge gives back.
use Rattle.std.specs.Prelude.{List, ℕ, Result, Ok, Err}
use Rattle.edits.specs.declared.list.ListFault.TheVariants.{BadEdit, TooMany}
use Rattle.tell.specs.Told.{refusal_place, refusal_line, refusal_text}
use Rattle.merge.specs.Merge.{merge_number}
use Rattle.reply_merge.specs.declared.MergeReply.{MergeReply}
use Rattle.merge.specs.declared.NotMerged.{NotMerged}
use Rattle.merge.specs.declared.NotMerged.TheVariants.{BadList, NoRecord, NothingToDo, Refused, ShortIndex, ShortOutput, TooLarge, Twins, UnknownKind}

abbrev pub merge_gives : ℕ → ℕ → ℕ → ℕ → ℕ → MergeReply
merge_gives number place line len text_len = record { number = number; place = place; line = line; length = len; text_len = text_len }

-- what stands beside a number: "check and merge give the item's place in the lent file for 4 and 6, merge the edit's start for 7, 8, 9 and 11,
-- .. and 2 its text; nothing else is given with a refusal", where document 02 has 41 to 45 for 4, and an error's line with each of these: "Check and merge pass
-- the same on for 4."; "The answer gives the length"
abbrev pub merge_beside : ℕ → List ℕ → Result ℕ NotMerged → MergeReply
merge_beside number old (Ok len) = merge_gives number 0 0 len 0
merge_beside number old (Err UnknownKind) = merge_gives number 0 0 0 0
merge_beside number old (Err TooLarge) = merge_gives number 0 0 0 0
merge_beside number old (Err (BadList (BadEdit place f))) = merge_gives number place 0 0 0
merge_beside number old (Err (BadList (TooMany place))) = merge_gives number place 0 0 0
merge_beside number old (Err ShortIndex) = merge_gives number 0 0 0 0
merge_beside number old (Err (Twins place)) = merge_gives number place 0 0 0
merge_beside number old (Err (Refused why)) = merge_gives number (refusal_place why) (refusal_line old why) 0 (refusal_text old why)
merge_beside number old (Err NothingToDo) = merge_gives number 0 0 0 0
merge_beside number old (Err NoRecord) = merge_gives number 0 0 0 0
merge_beside number old (Err ShortOutput) = merge_gives number 0 0 0 0

abbrev pub merge_reply : List ℕ → Result ℕ NotMerged → MergeReply
merge_reply old a = merge_beside (merge_number a) old a
