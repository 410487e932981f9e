-- What the content of a loose reference file says. n is the number of an id's digits.
use Rattle.std.specs.Prelude.{Bool, not, ◌||◌, List, [], ◌∷◌, ℕ, ◌+◌, eqb, length, take, drop, Result, Ok, Err}
use Rattle.parse.specs.Choice.{if}
use Rattle.class.specs.Class.{Classes, paper}
use Rattle.parse.specs.Limit.{admission, admit}
use Rattle.compare.specs.Prefix.{begins}
use Rattle.parse.specs.Run.{span}
use Rattle.name.specs.Name.{valid_name}
use Rattle.loose.specs.declared.Loose.{Loose}
use Rattle.loose.specs.declared.Loose.TheVariants.{Id, Symbolic}
use Rattle.loose.specs.declared.LooseFault.{LooseFault}
use Rattle.loose.specs.declared.LooseFault.TheVariants.{BadTarget, Unreadable}
use Rattle.parse.specs.declared.limit.NotAdmitted.{NotAdmitted}
use Rattle.parse.specs.declared.limit.NotAdmitted.TheVariants.{TooLarge, UnknownKind}

-- "`ref: `"
abbrev pub ref_mark : List ℕ
ref_mark = 114 ∷ 101 ∷ 102 ∷ 58 ∷ 32 ∷ []

-- "any more spaces": a space is 32. The place behind the mark and behind them is where the path begins
abbrev pub is_space : ℕ → Bool
is_space b = eqb b 32

abbrev pub path_start : List ℕ → ℕ
path_start s = length ref_mark + span is_space (drop (length ref_mark) s)

-- "path to the first NUL, CR, LF or the end": NUL is 0. The length of a path at the front of s
abbrev pub ends_path : Classes → ℕ → Bool
ends_path byte b = eqb b 0 || byte.line_end b

abbrev pub path_len : Classes → List ℕ → ℕ
path_len byte s = span (λ b. not (ends_path byte b)) s

-- "valid gives symbolic, else 16"
unfoldable pub symbolic_of : Classes → List ℕ → Result Loose LooseFault
symbolic_of byte s =
    let from = path_start s in
    let len = path_len byte (drop from s) in
    if (valid_name byte (take len (drop from s))) (Ok (Symbolic from len)) (Err BadTarget)

-- "a full-length id not followed by another hex digit; what follows is ignored": the digits at the front are n, no fewer and no more
abbrev pub full_id : Classes → ℕ → List ℕ → Bool
full_id byte n s = eqb (span byte.hex s) n

-- "Otherwise" an id; "else 15"
unfoldable pub loose_of : Classes → ℕ → List ℕ → Result Loose LooseFault
loose_of byte n s = if (begins ref_mark s) (symbolic_of byte s) (if (full_id byte n s) (Ok (Id n)) (Err Unreadable))

-- with the kind's number first, then the size limit
unfoldable pub loose_answer : ℕ → List ℕ → Result (Result Loose LooseFault) NotAdmitted
loose_answer kind s = admit (admission kind (length s) 0) (λ n. Ok (loose_of paper n s)) (Err UnknownKind) (Err TooLarge)

-- the paper's number for each case
abbrev pub loose_number : Result (Result Loose LooseFault) NotAdmitted → ℕ
loose_number (Ok (Ok (Id n))) = 0
loose_number (Ok (Ok (Symbolic from len))) = 0
loose_number (Ok (Err Unreadable)) = 15
loose_number (Ok (Err BadTarget)) = 16
loose_number (Err UnknownKind) = 1
loose_number (Err TooLarge) = 17
