-- What the prefix listing gives back.
use Rattle.std.specs.Prelude.{ℕ, Result, Ok, Err}
use Rattle.find.specs.PrefixStart.{prefix_start_number}
use Rattle.reply_lookup.specs.declared.prefix.PrefixReply.{PrefixReply}
use Rattle.find.specs.declared.prefix_start.BadStart.{BadStart}
use Rattle.parse.specs.declared.limit.NotAdmitted.{NotAdmitted}
use Rattle.parse.specs.declared.limit.NotAdmitted.TheVariants.{TooLarge, UnknownKind}

abbrev pub prefix_gives : ℕ → ℕ → ℕ → ℕ → PrefixReply
prefix_gives number place text_at text_len = record { number = number; place = place; text_at = text_at; text_len = text_len }

-- what stands beside a number
abbrev pub prefix_beside : ℕ → Result (Result ℕ BadStart) NotAdmitted → PrefixReply
prefix_beside number (Ok (Ok place)) = prefix_gives number place 0 0
prefix_beside number (Ok (Err bad)) = prefix_gives number 0 bad.place bad.text
prefix_beside number (Err UnknownKind) = prefix_gives number 0 0 0
prefix_beside number (Err TooLarge) = prefix_gives number 0 0 0

abbrev pub prefix_reply : Result (Result ℕ BadStart) NotAdmitted → PrefixReply
prefix_reply a = prefix_beside (prefix_start_number a) a
