-- What the header function and the name function give back.
use Rattle.std.specs.Prelude.{List, ℕ, length, Result, Ok, Err}
use Rattle.parse.specs.Choice.{if}
use Rattle.class.specs.Class.{paper}
use Rattle.parse.specs.Limit.{over_limit}
use Rattle.name.specs.Name.{valid_name}
use Rattle.header.specs.declared.Peeled.{Peeled}
use Rattle.header.specs.declared.Peeled.TheVariants.{Unspecified, Partial, Fully}
use Rattle.header.specs.Header.{header_number}
use Rattle.reply_file.specs.declared.head.HeaderReply.{HeaderReply}
use Rattle.header.specs.declared.BadHeader.{BadHeader}
use Rattle.header.specs.declared.Header.{Header}
use Rattle.parse.specs.declared.limit.TooLarge.{TooLarge}

-- "one of three peeled states (unspecified, partial, fully)"
abbrev pub peeled_number : Peeled → ℕ
peeled_number Unspecified = 0
peeled_number Partial = 1
peeled_number Fully = 2

abbrev pub header_gives : ℕ → ℕ → ℕ → ℕ → ℕ → HeaderReply
header_gives number peeled sorted place text_len = record { number = number; peeled = peeled; sorted = sorted; place = place; text_len = text_len }

-- what stands beside a number
abbrev pub header_beside : ℕ → Result (Result Header BadHeader) TooLarge → HeaderReply
header_beside number (Ok (Ok h)) = header_gives number (peeled_number h.peeled) (if h.sorted 1 0) h.body 0
header_beside number (Ok (Err bad)) = header_gives number 0 0 0 bad.text
header_beside number (Err large) = header_gives number 0 0 0 0

abbrev pub header_reply : Result (Result Header BadHeader) TooLarge → HeaderReply
header_reply a = header_beside (header_number a) a

-- "3: the looked-up name breaks the name rules", behind the size limit
unfoldable pub name_number : List ℕ → ℕ
name_number name = if (over_limit (length name)) 17 (if (valid_name paper name) 0 3)
