-- The check of a whole file.
use Rattle.std.specs.Prelude.{List, [], ◌∷◌, ℕ, suc, ◌+◌, ltb, length, drop, Option, Some, None, Result, Ok, Err}
use Rattle.parse.specs.Choice.{if}
use Rattle.class.specs.Class.{Classes, paper}
use Rattle.parse.specs.Limit.{admission, admit}
use Rattle.compare.specs.Order.{smaller}
use Rattle.header.specs.Header.{header_of, headed}
use Rattle.decode.specs.Record.{record_of, decoded, fault_number}
use Rattle.checks.specs.declared.Refusal.{Refusal}
use Rattle.checks.specs.declared.Refusal.TheVariants.{BadHeader, BadRecord, Unsorted}
use Rattle.iter.specs.Items.{Item, items, name_in, name_of}
use Rattle.decode.specs.declared.reference.Fault.{Fault}
use Rattle.decode.specs.declared.reference.Record.{Record}
use Rattle.parse.specs.declared.limit.NotAdmitted.{NotAdmitted}
use Rattle.parse.specs.declared.limit.NotAdmitted.TheVariants.{TooLarge, UnknownKind}

-- "iterate; the first item that is an error (4) or whose name isn't greater, byte by byte, than the one before (6) is answered
-- with its place; else 0 and the record count", where document 02 has 41 to 45 for 4, by the item's part. The items begin at a place. So many records (count) stood
-- before them, and the last of those has the name last. Before the first record last is empty: every name is greater than that
abbrev pub judge : ℕ → ℕ → ℕ → List ℕ → List Item → Result ℕ Refusal
judge n place count last [] = Ok count
judge n place count last (i ∷ l) =
    decoded i.what
    (λ r. if (smaller last (name_of n i)) (judge n (place + length i.bytes) (suc count) (name_of n i) l) (Err (Unsorted place)))
    (λ f. Err (BadRecord place f))

-- the items of a file from a place on
abbrev pub judge_from : Classes → ℕ → List ℕ → ℕ → ℕ → List ℕ → Result ℕ Refusal
judge_from byte n file place count last = judge n place count last (items byte n (drop place file))

-- the body of a file, which begins at a place
unfoldable pub judge_body : Classes → ℕ → List ℕ → ℕ → Result ℕ Refusal
judge_body byte n file body = judge_from byte n file body 0 []

unfoldable pub check_of : Classes → ℕ → List ℕ → Result ℕ Refusal
check_of byte n file = headed (header_of byte file) (λ h. judge_body byte n file h.body) (λ text. Err (BadHeader text))

-- with the kind's number first, then the size limit
unfoldable pub check_answer : ℕ → List ℕ → Result (Result ℕ Refusal) NotAdmitted
check_answer kind file = admit (admission kind (length file) 0) (λ n. Ok (check_of paper n file)) (Err UnknownKind) (Err TooLarge)

-- the paper's number for each refusal: "first byte is `#` and the header can't be read", "a record can't be read", "a name not greater
-- than the record's before it"
abbrev pub refusal_number : Refusal → ℕ
refusal_number (BadHeader k) = 2
refusal_number (BadRecord place f) = fault_number f
refusal_number (Unsorted place) = 6

abbrev pub verdict_number : Result ℕ Refusal → ℕ
verdict_number (Ok count) = 0
verdict_number (Err why) = refusal_number why

-- the paper's number for each case
abbrev pub check_number : Result (Result ℕ Refusal) NotAdmitted → ℕ
check_number (Ok v) = verdict_number v
check_number (Err UnknownKind) = 1
check_number (Err TooLarge) = 17

-- ---- what functions promise each other: a pass that goes on from a place. No more records than bytes stand before it, so a greater count is cut to that

unfoldable pub count_before : ℕ → ℕ → ℕ
count_before count place = if (ltb count place) count place

-- ---- one turn of a pass that checks: what stands at a place, where last is the name of the record before it

abbrev pub turn_by : ℕ → List ℕ → List ℕ → ℕ → Result Record Fault → Result (Option Record) Refusal
turn_by n last rest place (Ok r) = if (smaller last (name_in n (Ok r) rest)) (Ok (Some r)) (Err (Unsorted place))
turn_by n last rest place (Err f) = Err (BadRecord place f)

unfoldable pub turn_of : Classes → ℕ → List ℕ → ℕ → List ℕ → Result (Option Record) Refusal
turn_of byte n file place last =
    if (ltb place (length file)) (turn_by n last (drop place file) place (record_of byte n (drop place file))) (Ok None)

-- the paper's number for each case: an end or a record that is in order is no refusal
abbrev pub turn_number : Result (Option Record) Refusal → ℕ
turn_number (Ok None) = 0
turn_number (Ok (Some r)) = 0
turn_number (Err why) = refusal_number why
