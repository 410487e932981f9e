-- What the reading of loose content gives back.
use Rattle.std.specs.Prelude.{ℕ, Result, Ok, Err}
use Rattle.loose.specs.Loose.{loose_number}
use Rattle.reply_loose.specs.declared.LooseReply.{LooseReply}
use Rattle.loose.specs.declared.Loose.{Loose}
use Rattle.loose.specs.declared.Loose.TheVariants.{Id, Symbolic}
use Rattle.loose.specs.declared.LooseFault.{LooseFault}
use Rattle.loose.specs.declared.LooseFault.TheVariants.{BadTarget, Unreadable}
use Rattle.parse.specs.declared.limit.NotAdmitted.{NotAdmitted}
use Rattle.parse.specs.declared.limit.NotAdmitted.TheVariants.{TooLarge, UnknownKind}

abbrev pub loose_gives : ℕ → ℕ → ℕ → ℕ → LooseReply
loose_gives number what at len = record { number = number; what = what; at = at; len = len }

-- what stands beside a number. An id stands at the front
abbrev pub loose_beside : ℕ → Result (Result Loose LooseFault) NotAdmitted → LooseReply
loose_beside number (Ok (Ok (Id n))) = loose_gives number 1 0 n
loose_beside number (Ok (Ok (Symbolic from len))) = loose_gives number 2 from len
loose_beside number (Ok (Err Unreadable)) = loose_gives number 0 0 0
loose_beside number (Ok (Err BadTarget)) = loose_gives number 0 0 0
loose_beside number (Err UnknownKind) = loose_gives number 0 0 0
loose_beside number (Err TooLarge) = loose_gives number 0 0 0

abbrev pub loose_reply : Result (Result Loose LooseFault) NotAdmitted → LooseReply
loose_reply a = loose_beside (loose_number a) a
