-- What the check gives back.
use Rattle.std.specs.Prelude.{List, ℕ, Result, Ok, Err}
use Rattle.checks.specs.Check.{check_number}
use Rattle.tell.specs.Told.{refusal_place, refusal_line, refusal_text}
use Rattle.reply_file.specs.declared.verdict.CheckReply.{CheckReply}
use Rattle.checks.specs.declared.Refusal.{Refusal}
use Rattle.parse.specs.declared.limit.NotAdmitted.{NotAdmitted}
use Rattle.parse.specs.declared.limit.NotAdmitted.TheVariants.{TooLarge, UnknownKind}

abbrev pub check_gives : ℕ → ℕ → ℕ → ℕ → ℕ → CheckReply
check_gives number place line count text_len = record { number = number; place = place; line = line; count = count; text_len = text_len }

-- what stands beside a number: "check and merge give the item's place in the lent file for 4 and 6, .. and 2 its text; nothing else is given
-- with a refusal", where document 02 has 41 to 45 for 4, and an error's line with each of these: "Check and merge pass the same on for 4."
abbrev pub check_beside : ℕ → List ℕ → Result (Result ℕ Refusal) NotAdmitted → CheckReply
check_beside number file (Ok (Ok count)) = check_gives number 0 0 count 0
check_beside number file (Ok (Err why)) = check_gives number (refusal_place why) (refusal_line file why) 0 (refusal_text file why)
check_beside number file (Err UnknownKind) = check_gives number 0 0 0 0
check_beside number file (Err TooLarge) = check_gives number 0 0 0 0

abbrev pub check_reply : List ℕ → Result (Result ℕ Refusal) NotAdmitted → CheckReply
check_reply file a = check_beside (check_number a) file a
