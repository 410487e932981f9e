-- Lookup and `ask` in five small bodies, the first of them document 01's: kind 1, ids of 40 digits.
use Rattle.std.specs.Prelude.{List, [], ◌∷◌, ◌++◌, ℕ, replicate, None, Ok}
use Rattle.class.specs.Class.{paper}
use Rattle.decode.specs.declared.reference.Fault.TheVariants.{Id, Peeled}
use Rattle.checks.specs.declared.Refusal.TheVariants.{BadRecord}
use Rattle.find.specs.declared.lookup.Lookup.{Lookup}
use Rattle.find.specs.declared.lookup.Lookup.TheVariants as lookup
use Rattle.ask.specs.declared.Told.{Told}
use Rattle.ask.specs.declared.Told.TheVariants as told
use Rattle.find.specs.Lookup.{lookup_of}
use Rattle.ask.specs.Ask.{ask_of}

-- some bytes, what the lookup of `refs/s/a` in them gives, and what `ask` gives
pub record Case : Type 0 where
  pub bytes : List ℕ
  pub found : Lookup
  pub asked : Told

-- `refs/s/`
abbrev pub refs_s : List ℕ
refs_s = 114 ∷ 101 ∷ 102 ∷ 115 ∷ 47 ∷ 115 ∷ 47 ∷ []

-- the case as it computes
abbrev pub computed : Case → Case
computed c = record { bytes = c.bytes; found = lookup_of paper 40 c.bytes (refs_s ++ 97 ∷ []); asked = ask_of paper 40 c.bytes (refs_s ++ 97 ∷ []) }

abbrev pub all_computed : List Case → List Case
all_computed [] = []
all_computed (c ∷ l) = computed c ∷ all_computed l

-- forty digits `1`, a space, `refs/s/` and a letter, LF
abbrev pub line : ℕ → List ℕ → List ℕ
line letter behind = replicate 40 49 ++ 32 ∷ (refs_s ++ letter ∷ 10 ∷ behind)

-- `a`, `b`, `x` and `^zz` are bytes 97, 98, 120 and 94, 122, 122
abbrev pub cases : List Case
cases =
    -- empty bytes: lookup of `refs/s/a` gives 5
    record { bytes = []; found = lookup.Absent; asked = told.Absent }
    -- a line that can't be read: never absent
    ∷ record { bytes = 120 ∷ 10 ∷ []; found = lookup.Unsure; asked = told.Refused (BadRecord 0 Id) }
    -- a record of that name, and one of another
    ∷ record { bytes = line 97 []; found = lookup.Charted 0 (record { name_len = 8; peeled = None; size = 50 }); asked = told.Charted 0 (record { name_len = 8; peeled = None; size = 50 }) (Ok 1) }
    ∷ record { bytes = line 98 []; found = lookup.Absent; asked = told.Absent }
    -- a bad `^` line spoils the record before it: a hit gives 45 with its place
    ∷ record { bytes = line 97 (94 ∷ 122 ∷ 122 ∷ 10 ∷ []); found = lookup.BadRecord 0 Peeled; asked = told.Refused (BadRecord 0 Peeled) }
    ∷ []
