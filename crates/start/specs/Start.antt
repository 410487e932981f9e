-- The start of an iteration over a whole file.
use Rattle.std.specs.Prelude.{◌≡◌, List, ℕ, eqb, length, get_or, Result, Ok, Err}
use Rattle.parse.specs.Choice.{if}
use Rattle.class.specs.Class.{Classes, paper}
use Rattle.parse.specs.Limit.{admission, admit}
use Rattle.header.specs.declared.Header.{Header}
use Rattle.header.specs.Header.{header_of, headed}
use Rattle.line_number.specs.LineNumber.{line_number}
use Rattle.header.specs.declared.BadHeader.{BadHeader}
use Rattle.parse.specs.declared.limit.NotAdmitted.{NotAdmitted}
use Rattle.parse.specs.declared.limit.NotAdmitted.TheVariants.{TooLarge, UnknownKind}
use Rattle.start.specs.declared.Start.{Start}

-- the number of the line that the items begin on: 1, or 2 behind a header. It is the true one (`StartsTrue`): one more than the line feeds before that place
unfoldable pub start_line : List ℕ → ℕ
start_line s = if (eqb (get_or s 0 0) 35) 2 1

-- a start at a place, where a line of that number begins
abbrev pub starts_at : ℕ → ℕ → Result Start BadHeader
starts_at place line = Ok (record { place = place; line = line })

-- behind the header, or at the front of bytes that have none; or number 2
unfoldable pub start_of : Classes → List ℕ → Result Start BadHeader
start_of byte s = headed (header_of byte s) (λ h. starts_at h.body (start_line s)) (λ text. Err (record { text = text }))

pub record StartsTrue (s : List ℕ) : Type 0 where
  pub line : (h : Header) → header_of paper s ≡ Ok h → start_line s ≡ line_number s h.body

-- with the kind's number first, then the size limit
unfoldable pub start_answer : ℕ → List ℕ → Result (Result Start BadHeader) NotAdmitted
start_answer kind s = admit (admission kind (length s) 0) (λ n. Ok (start_of paper s)) (Err UnknownKind) (Err TooLarge)

-- the paper's number for each case
abbrev pub start_number : Result (Result Start BadHeader) NotAdmitted → ℕ
start_number (Ok (Ok start)) = 0
start_number (Ok (Err bad)) = 2
start_number (Err UnknownKind) = 1
start_number (Err TooLarge) = 17
