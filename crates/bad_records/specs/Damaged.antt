-- `ask` in files that are damaged, and in one that is not: the number, and the fault beside it. Kind 1, ids of 40 digits. "`ask` answers charted from a file that
-- fails the check elsewhere"; "beside 0 it now tells what the check gives of the whole file (`fault`, 0 where it passes)".
use Rattle.std.specs.Prelude.{◌≡◌, List, [], ◌∷◌, ◌++◌, map, ℕ}
use Rattle.ask.specs.Ask.{ask_answer, ask_number, ask_fault}
use Rattle.bad_records.specs.Table.{id, name, spaced, tabbed, lf}

-- a file in which `refs/s/b` is asked
pub record Row : Type 0 where
  pub file : List ℕ
  pub number : ℕ
  pub fault : ℕ

abbrev pub computed : List ℕ → Row
computed file = record { file = file; number = ask_number (ask_answer 1 file (name 98)); fault = ask_fault (ask_answer 1 file (name 98)) }

abbrev pub gives : ℕ → ℕ → List ℕ → Row
gives number fault file = record { file = file; number = number; fault = fault }

-- a good record of a letter, and a damaged line, 42
abbrev pub good : ℕ → List ℕ
good letter = spaced id (name letter) lf

abbrev pub damaged : List ℕ
damaged = tabbed id (name 97) lf

-- `a`, `b` and `c` are 97, 98 and 99
abbrev pub rows : List Row
rows =
    -- a file that passes: charted and nothing more, or absent
    gives 0 0 (good 97 ++ (good 98 ++ good 99))
    ∷ gives 5 0 (good 97 ++ good 99)
    -- charted, with the damage before the record, and behind it
    ∷ gives 0 42 (damaged ++ good 98)
    ∷ gives 0 42 (good 98 ++ damaged)
    ∷ gives 0 43 (good 98 ++ spaced id (name 99) [])
    -- the record itself stands out of order; another does; the name stands twice
    ∷ gives 0 6 (good 99 ++ good 98)
    ∷ gives 0 6 (good 98 ++ (good 99 ++ good 97))
    ∷ gives 0 6 (good 98 ++ good 98)
    -- of two faults the first is told, whether the record stands before both, between them or behind them
    ∷ gives 0 42 (good 98 ++ (damaged ++ good 97))
    ∷ gives 0 42 (damaged ++ (good 98 ++ good 97))
    ∷ gives 0 6 (good 99 ++ (good 97 ++ (damaged ++ good 98)))
    -- no record of the name: the check's number, and no fault beside it
    ∷ gives 42 0 (good 97 ++ damaged)
    ∷ []

-- the single statement
abbrev pub EveryRow : Type 0
EveryRow = map (λ (r : Row). computed r.file) rows ≡ rows
