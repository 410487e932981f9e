-- Numbers 1 and 17: the id kinds and the size limit.
use Rattle.std.specs.Prelude.{Bool, ◌||◌, ℕ, ltb, eqb, Option, Some, None, Result, Ok, Err}
use Rattle.parse.specs.Choice.{if}
use Rattle.parse.specs.declared.limit.NotAdmitted.{NotAdmitted}
use Rattle.parse.specs.declared.limit.NotAdmitted.TheVariants.{TooLarge, UnknownKind}

-- "1: id kind is neither 1 (40 hex digits) nor 2 (64)"
unfoldable pub digits_of : ℕ → Option ℕ
digits_of kind = if (eqb kind 1) (Some 40) (if (eqb kind 2) (Some 64) None)

-- "17: lent input, an index aside, over 1,073,741,824 bytes"
unfoldable pub over_limit : ℕ → Bool
over_limit size = ltb 1073741824 size

-- "Everywhere 1 is tested first, then 17."
abbrev pub admission_by : Option ℕ → ℕ → ℕ → Result ℕ NotAdmitted
admission_by (Some n) size other = if (over_limit size || over_limit other) (Err TooLarge) (Ok n)
admission_by None size other = Err UnknownKind

unfoldable pub admission : ℕ → ℕ → ℕ → Result ℕ NotAdmitted
admission kind size other = admission_by (digits_of kind) size other

-- what comes of it: f of the digits, or the answer to 1, or that to 17
abbrev pub admit {ℓ} : {A : Type ℓ} → Result ℕ NotAdmitted → (ℕ → A) → A → A → A
admit (Ok n) f unknown large = f n
admit (Err UnknownKind) f unknown large = unknown
admit (Err TooLarge) f unknown large = large

-- the paper's number for each case
abbrev pub admission_number : Result ℕ NotAdmitted → ℕ
admission_number (Ok n) = 0
admission_number (Err UnknownKind) = 1
admission_number (Err TooLarge) = 17
