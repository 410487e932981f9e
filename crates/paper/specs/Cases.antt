-- Document 01's examples that are marked P: kind 1, ids of 40 digits. Each is a question, what the definitions answer, and what the
-- document says; where document 02 changes it, what that says beside the old sentence.
use Rattle.std.specs.Prelude.{◌≡◌, List, [], ◌∷◌, ◌++◌, map, ℕ, take, drop, replicate, Option, Some, None, Result, Ok, Err}
use Rattle.std.proofs.Math.Option.{none}
use Rattle.class.specs.Class.{paper}
use Rattle.checks.specs.Check.{check_answer, check_number, refusal_number}
use Rattle.handed.specs.Handed.{Handed, good, error, whats}
use Rattle.handed.specs.Iteration.{read_of, out_of}
use Rattle.find.specs.Lookup.{lookup_answer, lookup_number}
use Rattle.length.specs.Length.{length_at}
use Rattle.merge.specs.Merge.{merge_answer, merge_number}
use Rattle.loose.specs.Loose.{loose_answer, loose_number}
use Rattle.checks.specs.declared.Refusal.{Refusal}
use Rattle.length.specs.declared.Length.{Length}
use Rattle.loose.specs.declared.Loose.{Loose}
use Rattle.loose.specs.declared.Loose.TheVariants.{Id, Symbolic}
use Rattle.loose.specs.declared.LooseFault.{LooseFault}
use Rattle.loose.specs.declared.LooseFault.TheVariants.{BadTarget, Unreadable}
use Rattle.parse.specs.declared.limit.NotAdmitted.{NotAdmitted}
use Rattle.parse.specs.declared.limit.NotAdmitted.TheVariants.{TooLarge, UnknownKind}

-- ---- what is asked, and what comes of it

pub data Question : Type 0 where
  -- which records and errors are handed to a caller who steps from the start to the end
  iterate : List ℕ → Question
  check : List ℕ → Question
  lookup : (bytes name : List ℕ) → Question
  -- the length that an edit's name has, by its one or two groups
  name_length : List ℕ → Question
  -- a whole list of one edit: a merge with no old file, an index of one entry and no output
  merge : List ℕ → Question
  loose : List ℕ → Question

pub data Outcome : Type 0 where
  gives : List Handed → Outcome
  -- a number of the paper
  number : ℕ → Outcome
  count : ℕ → Outcome
  malformed : Outcome
  symbolic : List ℕ → Outcome
  id : List ℕ → Outcome

abbrev pub check_outcome : Result (Result ℕ Refusal) NotAdmitted → Outcome
check_outcome (Ok (Ok k)) = count k
check_outcome (Ok (Err why)) = number (refusal_number why)
check_outcome (Err UnknownKind) = number (check_number (Err UnknownKind))
check_outcome (Err TooLarge) = number (check_number (Err TooLarge))

abbrev pub length_outcome : Option Length → Outcome
length_outcome (Some l) = count l.value
length_outcome None = malformed

abbrev pub loose_outcome : List ℕ → Result (Result Loose LooseFault) NotAdmitted → Outcome
loose_outcome content (Ok (Ok (Id n))) = id (take n content)
loose_outcome content (Ok (Ok (Symbolic from len))) = symbolic (take len (drop from content))
loose_outcome content (Ok (Err Unreadable)) = number (loose_number (Ok (Err Unreadable)))
loose_outcome content (Ok (Err BadTarget)) = number (loose_number (Ok (Err BadTarget)))
loose_outcome content (Err UnknownKind) = number (loose_number (Err UnknownKind))
loose_outcome content (Err TooLarge) = number (loose_number (Err TooLarge))

-- by the definitions
abbrev pub answered : Question → Outcome
answered (iterate bytes) = gives (whats (out_of (read_of paper 40 bytes)))
answered (check bytes) = check_outcome (check_answer 1 bytes)
answered (lookup bytes name) = number (lookup_number (lookup_answer 1 bytes name))
answered (name_length bytes) = length_outcome (length_at bytes 0)
answered (merge list) = number (merge_number (merge_answer 1 [] list 1 0))
answered (loose content) = loose_outcome content (loose_answer 1 content)

-- ---- the cases

pub record Case : Type 0 where
  pub question : Question
  pub answer : Outcome

abbrev pub case : Question → Outcome → Case
case q a = record { question = q; answer = a }

-- 1*
abbrev pub ones : ℕ → List ℕ
ones n = replicate n 49

abbrev pub refs_sa : List ℕ
refs_sa = 114 ∷ 101 ∷ 102 ∷ 115 ∷ 47 ∷ 115 ∷ 47 ∷ 97 ∷ []

-- `1* refs/s/a`, then what is said
abbrev pub line : List ℕ → List ℕ
line behind = ones 40 ++ 32 ∷ (refs_sa ++ behind)

-- LF is 10, CR 13; `x` is 120, `b` 98, `^zz` 94, 122, 122; `ref: ` is 114, 101, 102, 58, 32
abbrev pub cases : List Case
cases =
    -- "P empty bytes: no items; check 0, count 0; lookup of `refs/s/a` 5."
    case (iterate []) (gives [])
    ∷ case (check []) (count 0)
    ∷ case (lookup [] refs_sa) (number 5)
    -- Document 01: "P `x` LF: error 1, text `x`. P `x` alone: error 1, empty text." With document 02's One an error tells its line, and the last line loses
    -- no byte: `x` LF: an error on line 1, text `x`; `x` alone: an error on line 1, text `x`
    ∷ case (iterate (120 ∷ 10 ∷ [])) (gives (error 1 (120 ∷ []) ∷ []))
    ∷ case (iterate (120 ∷ [])) (gives (error 1 (120 ∷ []) ∷ []))
    -- Document 01: "P `1* refs/s/a` LF `^zz` LF: error 1 `1* refs/s/a`, error 2 `^zz`." With document 02: an error on line 1, `1* refs/s/a`, an error on line 2,
    -- `^zz`
    ∷ case (iterate (line (10 ∷ 94 ∷ 122 ∷ 122 ∷ 10 ∷ []))) (gives (error 1 (line []) ∷ error 2 (94 ∷ 122 ∷ 122 ∷ []) ∷ []))
    -- "P `1* refs/s/a` CR LF: good. P with a bare CR before `b` LF: bad. P without any LF: bad."
    ∷ case (iterate (line (13 ∷ 10 ∷ []))) (gives (good (record { name = refs_sa; id = ones 40; peeled = none }) ∷ []))
    ∷ case (iterate (line (13 ∷ 98 ∷ 10 ∷ []))) (gives (error 1 (line (13 ∷ 98 ∷ [])) ∷ []))
    ∷ case (iterate (line [])) (gives (error 1 (line []) ∷ []))
    -- "P length 8 as one byte 8; P 128 as 128, 1; P 8 as 136, 0: number 7."
    ∷ case (name_length (8 ∷ [])) (count 8)
    ∷ case (name_length (128 ∷ 1 ∷ [])) (count 128)
    ∷ case (name_length (136 ∷ 0 ∷ [])) malformed
    -- a delete of `refs/s/a` with its length so is 7; with the length as one byte 8 it is read, and there is nothing to do
    ∷ case (merge (0 ∷ 136 ∷ 0 ∷ refs_sa)) (number 7)
    ∷ case (merge (0 ∷ 8 ∷ refs_sa)) (number 13)
    -- "P loose `ref:  refs/s/a` LF: symbolic. P forty-one digits: 15."
    ∷ case (loose (114 ∷ 101 ∷ 102 ∷ 58 ∷ 32 ∷ 32 ∷ (refs_sa ++ 10 ∷ []))) (symbolic refs_sa)
    ∷ case (loose (ones 41)) (number 15)
    ∷ []

-- the single statement
abbrev pub EveryCase : Type 0
EveryCase = map (λ c. answered c.question) cases ≡ map (λ c. c.answer) cases
