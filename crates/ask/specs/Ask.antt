-- The lookup that can be trusted on any bytes. It is not in document 01: it is made of the items and of the check.
use Rattle.std.specs.Prelude.{List, [], ◌∷◌, ℕ, ◌+◌, length, drop, Option, Some, None, Result, Ok, Err}
use Rattle.parse.specs.Choice.{if}
use Rattle.class.specs.Class.{Classes, paper}
use Rattle.parse.specs.Limit.{admission, admit}
use Rattle.compare.specs.Prefix.{same}
use Rattle.name.specs.Name.{valid_name}
use Rattle.header.specs.Header.{header_of, headed}
use Rattle.decode.specs.Record.{decoded}
use Rattle.decode.specs.declared.reference.Record.{Record}
use Rattle.checks.specs.declared.Refusal.TheVariants.{BadHeader}
use Rattle.iter.specs.Items.{Item, items, name_of}
use Rattle.checks.specs.Check.{judge_body, refusal_number, verdict_number}
use Rattle.ask.specs.declared.Told.{Told}
use Rattle.ask.specs.declared.Told.TheVariants.{Charted, Absent, BadName, Refused}
use Rattle.ask.specs.declared.Found.{Found}
use Rattle.checks.specs.declared.Refusal.{Refusal}
use Rattle.parse.specs.declared.limit.NotAdmitted.{NotAdmitted}
use Rattle.parse.specs.declared.limit.NotAdmitted.TheVariants.{TooLarge, UnknownKind}

-- a record that starts at a place
abbrev pub found_at : ℕ → Record → Option Found
found_at place r = Some (record { place = place; reading = r })

-- ---- the first record of a name among some items that begin at a place

abbrev pub first_named : ℕ → List ℕ → ℕ → List Item → Option Found
first_named n name place [] = None
first_named n name place (i ∷ l) =
    let later = first_named n name (place + length i.bytes) l in
    decoded i.what (λ r. if (same name (name_of n i)) (found_at place r) later) (λ f. later)

unfoldable pub sought_from : Classes → ℕ → List ℕ → ℕ → List ℕ → Option Found
sought_from byte n file place name = first_named n name place (items byte n (drop place file))

-- ---- behind a header that can be read: charted if a record has the name, and "beside 0 it now tells what the check gives of the whole file"; else
-- absent if the file passes the check; else what the check gives

abbrev pub told_of : Option Found → Result ℕ Refusal → Told
told_of (Some f) v = Charted f.place f.reading v
told_of None (Ok count) = Absent
told_of None (Err why) = Refused why

unfoldable pub ask_body : Classes → ℕ → List ℕ → ℕ → List ℕ → Told
ask_body byte n file body name = told_of (sought_from byte n file body name) (judge_body byte n file body)

unfoldable pub ask_of : Classes → ℕ → List ℕ → List ℕ → Told
ask_of byte n file name =
    if (valid_name byte name)
    (headed (header_of byte file) (λ h. ask_body byte n file h.body name) (λ text. Refused (BadHeader text)))
    BadName

unfoldable pub ask_answer : ℕ → List ℕ → List ℕ → Result Told NotAdmitted
ask_answer kind file name =
    admit (admission kind (length file) (length name)) (λ n. Ok (ask_of paper n file name)) (Err UnknownKind) (Err TooLarge)

-- the paper's number for each case
abbrev pub ask_number : Result Told NotAdmitted → ℕ
ask_number (Ok (Charted place r v)) = 0
ask_number (Ok Absent) = 5
ask_number (Ok BadName) = 3
ask_number (Ok (Refused why)) = refusal_number why
ask_number (Err UnknownKind) = 1
ask_number (Err TooLarge) = 17

-- what the check gives of the whole file ("`fault`, 0 where it passes"), beside 0 alone
abbrev pub ask_fault : Result Told NotAdmitted → ℕ
ask_fault (Ok (Charted place r v)) = verdict_number v
ask_fault (Ok Absent) = 0
ask_fault (Ok BadName) = 0
ask_fault (Ok (Refused why)) = 0
ask_fault (Err UnknownKind) = 0
ask_fault (Err TooLarge) = 0
