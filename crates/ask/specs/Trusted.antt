-- What the lookup that can be trusted on any bytes means.
use Rattle.std.specs.Prelude.{◌≡◌, true, List, ℕ, ◌+◌, drop, None, Result, Ok}
use Rattle.class.specs.Class.{paper}
use Rattle.header.specs.declared.Header.{Header}
use Rattle.header.specs.Header.{header_of}
use Rattle.decode.specs.declared.reference.Record.{Record}
use Rattle.iter.specs.Stands.{Named}
use Rattle.checks.specs.Check.{check_of, check_answer, verdict_number, check_number}
use Rattle.ask.specs.declared.Told.TheVariants as told
use Rattle.name.specs.Name.{valid_name}
use Rattle.ask.specs.Ask.{told_of, ask_of, ask_answer, ask_number, ask_fault}
use Rattle.checks.specs.declared.Refusal.{Refusal}

pub record Trusted (n : ℕ) (file name : List ℕ) : Type 0 where
  -- absent: the file passes the check, and no record of it has the name
  pub absent : ask_of paper n file name ≡ told.Absent
      → (count : ℕ) × (h : Header) × (check_of paper n file ≡ Ok count) × (header_of paper file ≡ Ok h)
      × ((place : ℕ) (r : Record) → Named n (drop h.body file) name place r → ⊥)
  -- charted: a record of the file has the name, at the place told, and the verdict beside it is the check's on the whole file
  pub charted : (place : ℕ) (r : Record) (v : Result ℕ Refusal) → ask_of paper n file name ≡ told.Charted place r v
      → (h : Header) × (inner : ℕ) × (header_of paper file ≡ Ok h) × (place ≡ h.body + inner) × Named n (drop h.body file) name inner r
      × (check_of paper n file ≡ v)
  -- "charted with fault 0 means that the file passes and the record is the only one of that name"
  pub certain : (place : ℕ) (r : Record) (v : Result ℕ Refusal) → ask_of paper n file name ≡ told.Charted place r v → verdict_number v ≡ 0
      → (count : ℕ) × (check_of paper n file ≡ Ok count)
      × ((h : Header) → header_of paper file ≡ Ok h → (inner : ℕ) (q : Record) → Named n (drop h.body file) name inner q
      → (h.body + inner ≡ place) × (q ≡ r))
  -- and the other way, behind a header that can be read: a valid name that a record has is charted, whatever else stands in the file
  pub there : (h : Header) → header_of paper file ≡ Ok h → valid_name paper name ≡ true → (inner : ℕ) (r : Record)
      → Named n (drop h.body file) name inner r
      → (place : ℕ) × (first : Record) × (ask_of paper n file name ≡ told.Charted place first (check_of paper n file))
  -- where none has it the answer is absent, or the check's refusal
  pub otherwise : (h : Header) → header_of paper file ≡ Ok h → valid_name paper name ≡ true
      → ((inner : ℕ) (r : Record) → Named n (drop h.body file) name inner r → ⊥) → ask_of paper n file name ≡ told_of None (check_of paper n file)

-- any bytes, any name
abbrev pub AskIsTrusted : Type 0
AskIsTrusted = (n : ℕ) (file name : List ℕ) → Trusted n file name

-- the same of what callers lend and get: "beside 0 it now tells what the check gives of the whole file"
abbrev pub FaultIsTheChecks : Type 0
FaultIsTheChecks = (kind : ℕ) (file name : List ℕ) → ask_number (ask_answer kind file name) ≡ 0 → ask_fault (ask_answer kind file name) ≡ check_number (check_answer kind file)
