-- Demand 1, of what callers lend and get: every call is answered or refused with a number, and what a refused merge leaves of the lent memory.
-- That no call faults, overflows or runs for ever is what the proof of each function says, and no function that is exported asks for anything first.
use Rattle.std.specs.Prelude.{◌≡◌, Bool, true, false, List, [], ◌∷◌, ◌++◌, ℕ, length, drop, Ok}
use Rattle.class.specs.Class.{Classes, paper}
use Rattle.block.specs.Among.{among}
use Rattle.parse.specs.Limit.{admission, admission_number}
use Rattle.header.specs.Header.{header_answer, header_number}
use Rattle.start.specs.Start.{start_answer, start_number}
use Rattle.iter.specs.Step.{plain_answer, prefix_answer, step_number}
use Rattle.walker.specs.Walk.{walk_answer}
use Rattle.checks.specs.Check.{check_answer, check_number, turn_of, turn_number}
use Rattle.ask.specs.Ask.{ask_answer, ask_number, ask_fault}
use Rattle.find.specs.Lookup.{lookup_answer, lookup_number}
use Rattle.find.specs.PrefixStart.{prefix_start_answer, prefix_start_number}
use Rattle.loose.specs.Loose.{loose_answer, loose_number}
use Rattle.reply_file.specs.Head.{name_number}
use Rattle.edits.specs.List.{all, edits_of, in_order, prepared_of, prepared_number}
use Rattle.merge.specs.Merge.{merge_answer, merge_number, output_after, index_answer}

-- ---- "Any bytes, any call: an answer or a numbered refusal"

abbrev pub AnsweredBy : ℕ → List ℕ → Type 0
AnsweredBy number l = among number l ≡ true

-- "41 first id, 42 no space, 43 line not ended properly, 44 name, 45 anything in the `^` line"
abbrev pub bad_record : List ℕ
bad_record = 41 ∷ 42 ∷ 43 ∷ 44 ∷ 45 ∷ []

pub record AllNumbered : Type 0 where
  pub header : (file : List ℕ) → AnsweredBy (header_number (header_answer file)) (0 ∷ 17 ∷ 2 ∷ [])
  pub name : (name : List ℕ) → AnsweredBy (name_number name) (0 ∷ 17 ∷ 3 ∷ [])
  pub start : (kind : ℕ) (file : List ℕ) → AnsweredBy (start_number (start_answer kind file)) (0 ∷ 1 ∷ 17 ∷ 2 ∷ [])
  pub step : (kind : ℕ) (bytes : List ℕ) (place : ℕ) → AnsweredBy (step_number (plain_answer kind bytes place)) (0 ∷ 1 ∷ 17 ∷ [])
  pub walk : (kind : ℕ) (bytes : List ℕ) (place line : ℕ) → AnsweredBy (step_number (walk_answer kind bytes place line).answer) (0 ∷ 1 ∷ 17 ∷ [])
  pub step_prefix : (kind : ℕ) (prefix bytes : List ℕ) (place : ℕ) → AnsweredBy (step_number (prefix_answer kind prefix bytes place)) (0 ∷ 1 ∷ 17 ∷ [])
  pub check : (kind : ℕ) (file : List ℕ) → AnsweredBy (check_number (check_answer kind file)) (0 ∷ 1 ∷ 17 ∷ 2 ∷ 6 ∷ bad_record)
  -- a hit that can't be read is 41 or 45, a miss after a failed probe 4
  pub lookup : (kind : ℕ) (body name : List ℕ) → AnsweredBy (lookup_number (lookup_answer kind body name)) (0 ∷ 1 ∷ 17 ∷ 3 ∷ 41 ∷ 45 ∷ 4 ∷ 5 ∷ [])
  pub prefix_start : (kind : ℕ) (body prefix : List ℕ) → AnsweredBy (prefix_start_number (prefix_start_answer kind body prefix)) (0 ∷ 1 ∷ 17 ∷ 2 ∷ [])
  pub ask : (kind : ℕ) (file name : List ℕ) → AnsweredBy (ask_number (ask_answer kind file name)) (0 ∷ 1 ∷ 17 ∷ 3 ∷ 5 ∷ 2 ∷ 6 ∷ bad_record)
  pub ask_fault_lem : (kind : ℕ) (file name : List ℕ) → AnsweredBy (ask_fault (ask_answer kind file name)) (0 ∷ 6 ∷ bad_record)
  pub loose : (kind : ℕ) (content : List ℕ) → AnsweredBy (loose_number (loose_answer kind content)) (0 ∷ 1 ∷ 17 ∷ 15 ∷ 16 ∷ [])
  pub merge : (kind : ℕ) (old list : List ℕ) (indexRoom room : ℕ)
      → AnsweredBy (merge_number (merge_answer kind old list indexRoom room)) (0 ∷ 1 ∷ 17 ∷ 7 ∷ 8 ∷ 9 ∷ 10 ∷ 11 ∷ 13 ∷ 14 ∷ 12 ∷ 2 ∷ 6 ∷ bad_record)
  -- and what one layer answers to the next
  pub admit : (kind size other : ℕ) → AnsweredBy (admission_number (admission kind size other)) (0 ∷ 1 ∷ 17 ∷ [])
  pub turn : (byte : Classes) (n : ℕ) (file : List ℕ) (place : ℕ) (last : List ℕ) → AnsweredBy (turn_number (turn_of byte n file place last)) (0 ∷ 6 ∷ bad_record)
  pub prepare : (byte : Classes) (n : ℕ) (list : List ℕ) (room : ℕ)
      → AnsweredBy (prepared_number (prepared_of byte n list room)) (0 ∷ 17 ∷ 7 ∷ 8 ∷ 9 ∷ 10 ∷ 11 ∷ [])

-- ---- what a merge leaves of the memory that it is lent

-- the refusals that stand before 11 in "Order: 1, 17, 7/8/9 by place, 10, 11, 2, 4/6 by place, 13, 14, 12.", where document 02 has 41 to 45 for 4
abbrev pub before_eleven : ℕ → Bool
before_eleven number = among number (1 ∷ 17 ∷ 7 ∷ 8 ∷ 9 ∷ 10 ∷ [])

module _ (kind : ℕ) (old list index out : List ℕ) where
  abbrev pub number : ℕ
  number = merge_number (merge_answer kind old list (length index) (length out))

  abbrev pub out_after : List ℕ
  out_after = output_after kind old list (length index) out

  abbrev pub index_afterwards : List ℕ
  index_afterwards = index_answer kind old list index

  -- the whole list was read with ids of the kind's digits: so many edits, whose places these are
  pub record Filled : Type 0 where
    pub digits : ℕ
    pub kind_is : admission kind (length old) (length list) ≡ Ok digits
    pub places : List ℕ
    pub whole : edits_of paper digits list ≡ all places
    pub is : index_afterwards ≡ in_order list places ++ drop (length places) index

  pub record Leaves : Type 0 where
    -- "A refused merge leaves the output untouched"
    pub untouched : (number ≡ 0 → ⊥) → out_after ≡ out
    -- "before that it is unchanged"
    pub unchanged : before_eleven number ≡ true → index_afterwards ≡ index
    -- "From 11 on the index's first entries hold the edits' places in the list by name order [..]; entries behind are never touched."
    pub filled : before_eleven number ≡ false → Filled

pub record Demand1 : Type 0 where
  pub numbered : AllNumbered
  pub leaves : (kind : ℕ) (old list index out : List ℕ) → Leaves kind old list index out
