-- Items, records, line ends and the check: document 01's worked examples, and the verdicts on them. Kind 1, ids of 40 digits.
use Rattle.std.specs.Prelude.{List, [], ◌∷◌, ◌++◌, ℕ, replicate, Result, Ok, Err}
use Rattle.std.proofs.Math.Option.{none, some}
use Rattle.class.specs.Class.{paper}
use Rattle.decode.specs.declared.reference.Fault.TheVariants.{Id, LineEnd, Peeled}
use Rattle.checks.specs.declared.Refusal.TheVariants.{BadRecord}
use Rattle.checks.specs.Check.{check_of}
use Rattle.handed.specs.Handed.{Handed, good, error, whats}
use Rattle.handed.specs.Iteration.{read_of, out_of}
use Rattle.checks.specs.declared.Refusal.{Refusal}

-- some bytes, what reading them from the start to the end hands out, and the check's verdict on them
pub record Case : Type 0 where
  pub bytes : List ℕ
  pub out : List Handed
  pub verdict : Result ℕ Refusal

-- the case as it computes
abbrev pub computed : Case → Case
computed c = record { bytes = c.bytes; out = whats (out_of (read_of paper 40 c.bytes)); verdict = check_of paper 40 c.bytes }

abbrev pub all_computed : List Case → List Case
all_computed [] = []
all_computed (c ∷ l) = computed c ∷ all_computed l

-- forty digits `1`
abbrev pub ones : List ℕ
ones = replicate 40 49

-- `refs/s/`
abbrev pub refs_s : List ℕ
refs_s = 114 ∷ 101 ∷ 102 ∷ 115 ∷ 47 ∷ 115 ∷ 47 ∷ []

-- the id, a space and `refs/s/a`, then what is said
abbrev pub line : List ℕ → List ℕ
line behind = ones ++ 32 ∷ (refs_s ++ 97 ∷ behind)

-- LF is 10, CR 13; `^zz`, `b` and `x` are bytes 94, 122, 122, 98 and 120
abbrev pub cases : List Case
cases =
    -- empty bytes: no items, and no records
    record { bytes = []; out = []; verdict = Ok 0 }
    -- document 01: "`x` LF: error 1, text `x`. `x` alone: error 1, empty text." With document 02 the number is the line's, and the last line loses no byte:
    -- `x` LF: an error on line 1, text `x`. `x` alone: an error on line 1, text `x`
    ∷ record { bytes = 120 ∷ 10 ∷ []; out = error 1 (120 ∷ []) ∷ []; verdict = Err (BadRecord 0 Id) }
    ∷ record { bytes = 120 ∷ []; out = error 1 (120 ∷ []) ∷ []; verdict = Err (BadRecord 0 Id) }
    -- document 01: "`1* refs/s/a` LF `^zz` LF: error 1 `1* refs/s/a`, error 2 `^zz`." With document 02: an error on line 1, `1* refs/s/a`, and one on line 2, `^zz`.
    -- A second line that can't be read makes the record bad, and each line is an error of its own
    ∷ record {
      bytes = line (10 ∷ 94 ∷ 122 ∷ 122 ∷ 10 ∷ []);
      out = error 1 (line []) ∷ error 2 (94 ∷ 122 ∷ 122 ∷ []) ∷ [];
      verdict = Err (BadRecord 0 Peeled);
    }
    -- CR LF ends a line; a bare CR does not, and the end of the bytes does not
    ∷ record { bytes = line (13 ∷ 10 ∷ []); out = good (record { name = refs_s ++ 97 ∷ []; id = ones; peeled = none }) ∷ []; verdict = Ok 1 }
    ∷ record { bytes = line (13 ∷ 98 ∷ 10 ∷ []); out = error 1 (line (13 ∷ 98 ∷ [])) ∷ []; verdict = Err (BadRecord 0 LineEnd) }
    ∷ record { bytes = line []; out = error 1 (line []) ∷ []; verdict = Err (BadRecord 0 LineEnd) }
    -- lines are counted, not items: behind a record of two lines stands line 3
    ∷ record {
      bytes = line (10 ∷ 94 ∷ (ones ++ 10 ∷ 120 ∷ []));
      out = good (record { name = refs_s ++ 97 ∷ []; id = ones; peeled = some ones }) ∷ error 3 (120 ∷ []) ∷ [];
      verdict = Err (BadRecord 92 Id);
    }
    ∷ []
