-- Records with one fault and with each two of the five, and the number that each place gives: kind 1, ids of 40 digits. Document 02, Six: "41 first id,
-- 42 no space, 43 line not ended properly, 44 name, 45 anything in the `^` line. The first in that order counts, in the check, merge [..] and a lookup's
-- hit. Lookup's miss after a failed probe keeps 4".
use Rattle.std.specs.Prelude.{◌≡◌, List, [], ◌∷◌, ◌++◌, map, ℕ, replicate}
use Rattle.iter.specs.Step.{plain_answer}
use Rattle.checks.specs.Check.{check_answer, check_number}
use Rattle.find.specs.Lookup.{lookup_answer, lookup_number}
use Rattle.ask.specs.Ask.{ask_answer, ask_number}
use Rattle.merge.specs.Merge.{merge_answer, merge_number}
use Rattle.reply_file.specs.Walk.{step_reply}

-- ---- bytes: `1` is 49, `g` is 103, which is no digit; `/` is 47, `a` 97, `b` 98; `^` is 94, `z` 122; LF is 10, CR 13, TAB 9, a space 32

abbrev pub id : List ℕ
id = replicate 40 49

abbrev pub bad_id : List ℕ
bad_id = 103 ∷ replicate 39 49

-- `refs/s/` and a letter; and `refs//a`, which is no name
abbrev pub name : ℕ → List ℕ
name letter = 114 ∷ 101 ∷ 102 ∷ 115 ∷ 47 ∷ 115 ∷ 47 ∷ letter ∷ []

abbrev pub bad_name : List ℕ
bad_name = 114 ∷ 101 ∷ 102 ∷ 115 ∷ 47 ∷ 47 ∷ 97 ∷ []

abbrev pub lf : List ℕ
lf = 10 ∷ []

-- `^zz` LF; `^` alone, as the last byte
abbrev pub bad_peeled : List ℕ
bad_peeled = 94 ∷ 122 ∷ 122 ∷ 10 ∷ []

abbrev pub caret : List ℕ
caret = 94 ∷ []

-- a record by its parts, with a space or a TAB before the name
abbrev pub spaced : List ℕ → List ℕ → List ℕ → List ℕ
spaced i n behind = i ++ 32 ∷ (n ++ behind)

abbrev pub tabbed : List ℕ → List ℕ → List ℕ → List ℕ
tabbed i n behind = i ++ 9 ∷ (n ++ behind)

-- ---- what is asked of a file that is this one record: why the step calls it an error, the check, a merge of one update of `refs/s/b`, `refs/s/b` asked, and
-- `refs/s/a` looked up

pub record Row : Type 0 where
  pub file : List ℕ
  pub step : ℕ
  pub check : ℕ
  pub merge : ℕ
  pub ask : ℕ
  pub lookup : ℕ

abbrev pub computed : List ℕ → Row
computed file =
    record {
      file = file;
      step = (step_reply 1 0 (plain_answer 1 file 0)).why;
      check = check_number (check_answer 1 file);
      merge = merge_number (merge_answer 1 file (1 ∷ 8 ∷ (name 98 ++ replicate 20 119)) 1 300);
      ask = ask_number (ask_answer 1 file (name 98));
      lookup = lookup_number (lookup_answer 1 file (name 97));
    }

-- a number in every place, and what the lookup gives
abbrev pub bad : ℕ → ℕ → List ℕ → Row
bad number found file = record { file = file; step = number; check = number; merge = number; ask = number; lookup = found }

abbrev pub rows : List Row
rows =
    -- ---- one fault. The lookup hits the record where its shape can be read and the name is the wanted one; where the shape can't be read it keeps 4
    bad 41 41 (spaced bad_id (name 97) lf)
    ∷ bad 42 4 (tabbed id (name 97) lf)
    ∷ bad 43 4 (spaced id (name 97) [])
    -- a CR without LF behind it
    ∷ bad 43 4 (spaced id (name 97) (13 ∷ 120 ∷ lf))
    ∷ bad 44 5 (spaced id bad_name lf)
    -- "Empty text behind the space is 44"
    ∷ bad 44 4 (spaced id [] lf)
    ∷ bad 45 45 (spaced id (name 97) (lf ++ bad_peeled))
    -- "`^` as the last byte is 45"
    ∷ bad 45 45 (spaced id (name 97) (lf ++ caret))
    -- a peeled id that no line end ends
    ∷ bad 45 45 (spaced id (name 97) (lf ++ (caret ++ id)))
    -- ---- two faults, each of the ten pairs
    ∷ bad 41 4 (tabbed bad_id (name 97) lf)
    ∷ bad 41 4 (spaced bad_id (name 97) [])
    ∷ bad 41 5 (spaced bad_id bad_name lf)
    ∷ bad 41 41 (spaced bad_id (name 97) (lf ++ bad_peeled))
    ∷ bad 42 4 (tabbed id (name 97) [])
    ∷ bad 42 4 (tabbed id bad_name lf)
    ∷ bad 42 4 (tabbed id (name 97) (lf ++ bad_peeled))
    -- "a space and then no line end is 43, also where the name would be bad"
    ∷ bad 43 4 (spaced id bad_name [])
    ∷ bad 43 4 (spaced id (name 97) (13 ∷ 120 ∷ (lf ++ bad_peeled)))
    ∷ bad 44 5 (spaced id bad_name (lf ++ bad_peeled))
    -- ---- all five
    ∷ bad 41 4 (tabbed bad_id bad_name (13 ∷ 120 ∷ (lf ++ bad_peeled)))
    ∷ []

-- the single statement
abbrev pub EveryRow : Type 0
EveryRow = map (λ (r : Row). computed r.file) rows ≡ rows
