-- Names around `.lock`, each in a record, looked up, in an edit and as a symbolic target: kind 1, ids of 40 digits.
use Rattle.std.specs.Prelude.{◌≡◌, List, [], ◌∷◌, ◌++◌, map, ℕ, length, replicate}
use Rattle.name.specs.Name.{dot_lock}
use Rattle.checks.specs.Check.{check_answer, check_number}
use Rattle.find.specs.Lookup.{lookup_answer, lookup_number}
use Rattle.ask.specs.Ask.{ask_answer, ask_number}
use Rattle.merge.specs.Merge.{merge_answer, merge_number}
use Rattle.loose.specs.Loose.{ref_mark, loose_answer, loose_number}

-- a name, and the number that each place gives
pub record Row : Type 0 where
  pub name : List ℕ
  pub check : ℕ
  pub lookup : ℕ
  pub ask : ℕ
  pub merge : ℕ
  pub loose : ℕ

-- the name in a file of one record, with an id of forty digits 1, and looked up there; in a list of one update of it, to 20 bytes, with no old file; behind `ref: `
abbrev pub computed : List ℕ → Row
computed name =
    let file = replicate 40 49 ++ 32 ∷ (name ++ 10 ∷ []) in
    record {
      name = name;
      check = check_number (check_answer 1 file);
      lookup = lookup_number (lookup_answer 1 file name);
      ask = ask_number (ask_answer 1 file name);
      merge = merge_number (merge_answer 1 [] (1 ∷ length name ∷ (name ++ replicate 20 119)) 1 200);
      loose = loose_number (loose_answer 1 (ref_mark ++ name));
    }

abbrev pub taken : List ℕ → Row
taken name = record { name = name; check = 0; lookup = 0; ask = 0; merge = 0; loose = 0 }

-- "Records, looked-up names, edits and symbolic targets that have such a component now give 4, 3, 8 and 16", where Six has 44 for the record's 4
abbrev pub refused : List ℕ → Row
refused name = record { name = name; check = 44; lookup = 3; ask = 3; merge = 8; loose = 16 }

-- `a` is 97, `b` 98, `c` 99, `x` 120; `/` is 47; `.loc` and `k` are 46, 108, 111, 99 and 107
abbrev pub rows : List Row
rows =
    -- `a.lock/b`, `a/b.lock/c`, `a/x.lock`
    refused (97 ∷ (dot_lock ++ 47 ∷ 98 ∷ []))
    ∷ refused (97 ∷ 47 ∷ 98 ∷ (dot_lock ++ 47 ∷ 99 ∷ []))
    ∷ refused (97 ∷ 47 ∷ 120 ∷ dot_lock)
    -- `a/.lock`, `a/.lock/b`, `.lock/b`
    ∷ refused (97 ∷ 47 ∷ dot_lock)
    ∷ refused (97 ∷ 47 ∷ (dot_lock ++ 47 ∷ 98 ∷ []))
    ∷ refused (dot_lock ++ 47 ∷ 98 ∷ [])
    -- `a.lock/b.lock`, `a.lock.lock/b`
    ∷ refused (97 ∷ (dot_lock ++ 47 ∷ 98 ∷ dot_lock))
    ∷ refused (97 ∷ (dot_lock ++ (dot_lock ++ 47 ∷ 98 ∷ [])))
    -- `a.lock.b/c`, `a.lockb/c`, `a/b.lockc`
    ∷ taken (97 ∷ (dot_lock ++ 46 ∷ 98 ∷ 47 ∷ 99 ∷ []))
    ∷ taken (97 ∷ (dot_lock ++ 98 ∷ 47 ∷ 99 ∷ []))
    ∷ taken (97 ∷ 47 ∷ 98 ∷ (dot_lock ++ 99 ∷ []))
    -- `a.loc/k`, `a.lo/ck`, `a.l/ock`, `a./lock`
    ∷ taken (97 ∷ 46 ∷ 108 ∷ 111 ∷ 99 ∷ 47 ∷ 107 ∷ [])
    ∷ taken (97 ∷ 46 ∷ 108 ∷ 111 ∷ 47 ∷ 99 ∷ 107 ∷ [])
    ∷ taken (97 ∷ 46 ∷ 108 ∷ 47 ∷ 111 ∷ 99 ∷ 107 ∷ [])
    ∷ taken (97 ∷ 46 ∷ 47 ∷ 108 ∷ 111 ∷ 99 ∷ 107 ∷ [])
    ∷ []

-- the single statement
abbrev pub EveryRow : Type 0
EveryRow = map (λ (r : Row). computed r.name) rows ≡ rows
