-- Name lengths: document 01's worked examples, and three cases beside them.
use Rattle.std.specs.Prelude.{List, [], ◌∷◌, ℕ, Option, None}
use Rattle.length.specs.Length.{length_at, length_of}
use Rattle.length.specs.declared.Length.{Length}

-- some bytes, and the length that they begin with
pub record Case : Type 0 where
  pub bytes : List ℕ
  pub reads : Option Length

-- the case as it computes
abbrev pub computed : Case → Case
computed c = record { bytes = c.bytes; reads = length_at c.bytes 0 }

abbrev pub all_computed : List Case → List Case
all_computed [] = []
all_computed (c ∷ l) = computed c ∷ all_computed l

abbrev pub cases : List Case
cases =
    -- length 8 as one byte 8; 128 as 128, 1
    record { bytes = 8 ∷ []; reads = length_of 8 1 }
    ∷ record { bytes = 128 ∷ 1 ∷ []; reads = length_of 128 2 }
    -- 8 as 136, 0: the second group is zero, number 7
    ∷ record { bytes = 136 ∷ 0 ∷ []; reads = None }
    -- an unfinished length, and a third group
    ∷ record { bytes = 136 ∷ []; reads = None }
    ∷ record { bytes = []; reads = None }
    ∷ record { bytes = 128 ∷ 128 ∷ 1 ∷ []; reads = None }
    ∷ []
