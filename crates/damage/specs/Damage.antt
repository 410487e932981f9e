-- Demand 3: what a reader is handed where a run of a checked file's bytes is replaced by others.
use Rattle.std.specs.Prelude.{◌≡◌, false, List, [], ◌∷◌, ◌++◌, ℕ, suc, ◌+◌, ◌≤◌, leb, ltb, get_or, length, Some, Ok}
use Rattle.std.proofs.Math.Option.{Option}
use Rattle.parse.specs.Choice.{if}
use Rattle.class.specs.Class.{paper}
use Rattle.parse.specs.Limit.{digits_of, over_limit}
use Rattle.parse.specs.Line.{line_len}
use Rattle.header.specs.declared.Header.{Header}
use Rattle.header.specs.Header.{header_answer}
use Rattle.start.specs.Start.{start_of, start_answer}
use Rattle.walker.specs.declared.Walked.{Walked}
use Rattle.iter.specs.Step.{step_of}
use Rattle.walker.specs.Walk.{line_behind, walk_answer}
use Rattle.handed.specs.Handed.{Handed, good, error, Given, whats}
use Rattle.handed.specs.Iteration.{said_end, read_of, out_of, stop_of}
use Rattle.handed.specs.Lines.{InLines, Each}
use Rattle.handed.specs.TrueLines.{TrueLines}
use Rattle.checks.specs.Check.{check_answer}

-- ---- the file: header, the bytes that are left in front of the run, the run, the rest

abbrev pub whole : List ℕ → List ℕ → List ℕ → List ℕ → List ℕ
whole header left run rest = header ++ (left ++ (run ++ rest))

-- "In a file that passes the check, replace one run of bytes after the header by any others (within the size limit; without a header, not
-- making `#` the first byte)": `#` is 35
pub record Replaced (kind : ℕ) (header left run other rest : List ℕ) : Type 0 where
  pub count : ℕ
  pub passes : check_answer kind (whole header left run rest) ≡ Ok (Ok count)
  pub head : Header
  pub reads : header_answer (whole header left run rest) ≡ Ok (Ok head)
  pub behind : head.body ≡ length header
  pub limit : over_limit (length (whole header left other rest)) ≡ false
  pub no_hash : header ≡ [] → get_or (whole header left other rest) 0 0 ≡ 35 → ⊥

-- ---- of what was handed out

-- what ends before a place, with at least one byte between
abbrev pub ending_before : ℕ → List Given → List Given
ending_before place [] = []
ending_before place (g ∷ l) = if (ltb g.next place) (g ∷ ending_before place l) (ending_before place l)

-- what begins at a place or behind it
abbrev pub beginning_from : ℕ → List Given → List Given
beginning_from place [] = []
beginning_from place (g ∷ l) = if (leb place g.place) (g ∷ beginning_from place l) (beginning_from place l)

-- the records of it
abbrev pub record_by : Handed → List Handed → List Handed
record_by (good e) l = good e ∷ l
record_by (error line text) l = l

abbrev pub records_in : List Given → List Handed
records_in [] = []
records_in (g ∷ l) = record_by g.what (records_in l)

-- ---- what is kept

-- all that is handed to a reader who lends a file to the start and steps to the end
abbrev pub handed_out : ℕ → List ℕ → List Given
handed_out n file = out_of (read_of paper n file)

-- g, an error behind the line feed, is the one line right behind that line feed (a `^` line that has lost its record). The line has so many bytes (line), begins at
-- the place here in the damaged file and at the place there in the file before, and every one of the records begins behind it
pub record Aside (g : Given) (here there line : ℕ) (records : List Given) : Type 0 where
  pub begins : g.place ≡ here
  pub ends : g.next ≡ here + line
  pub behind : Each (λ r. there + line ≤ r.place) records

-- a line feed (10) behind the run: the rest is a, LF, c
module _ (n : ℕ) (header left : List ℕ) (run other a c : List ℕ) where
  -- the two files, what is handed out of each, and the place behind the line feed in each
  abbrev pub handed_before : List Given
  handed_before = handed_out n (whole header left run (a ++ 10 ∷ c))

  abbrev pub handed_after : List Given
  handed_after = handed_out n (whole header left other (a ++ 10 ∷ c))

  abbrev pub place_before : ℕ
  place_before = suc (length (header ++ (left ++ (run ++ a))))

  abbrev pub place_after : ℕ
  place_after = suc (length (header ++ (left ++ (other ++ a))))

  pub record Behind : Type 0 where
    -- "every record beginning after the first line feed behind the run, comes out unchanged and in order"
    pub records : records_in (beginning_from place_after handed_after) ≡ whats (beginning_from place_before handed_before)
    pub between : List Given
    pub in_order : handed_after ≡ ending_before (length (header ++ left)) handed_before ++ (between ++ beginning_from place_after handed_after)
    -- "and no error after that line feed concerns a line of those records"
    pub errors : Each (λ g. (line : ℕ) (text : List ℕ) → g.what ≡ error line text
        → Aside g place_after place_before (line_len c) (beginning_from place_before handed_before)) (beginning_from place_after handed_after)

-- a walk from a place of the file, on a line: what stands there, and the line that it hands on
abbrev pub walks_to : ℕ → List ℕ → ℕ → ℕ → Walked
walks_to n file place line =
    let step = step_of paper n [] file place line in
    record { answer = Ok step; line = line_behind file place line step }

pub record Kept (kind n : ℕ) (header left run other rest : List ℕ) : Type 0 where
  -- "Read from the start": each call answers what the reading is made of
  pub starts : start_answer kind (whole header left other rest) ≡ Ok (start_of paper (whole header left other rest))
  pub steps : (place line : ℕ) → walk_answer kind (whole header left other rest) place line ≡ walks_to n (whole header left other rest) place line
  -- it starts at the same place and on the same line as before
  pub start : start_of paper (whole header left other rest) ≡ start_of paper (whole header left run rest)
  -- the reading comes to the end
  pub last : Option ℕ
  pub end : stop_of (read_of paper n (whole header left other rest)) ≡ said_end (length (whole header left other rest)) last
  -- what is handed out of the file before is records alone
  pub all_records : records_in (handed_out n (whole header left run rest)) ≡ whats (handed_out n (whole header left run rest))
  -- "every record ending before the run with at least one kept byte between [..] comes out unchanged and in order"
  pub others : List Given
  pub in_front : handed_out n (whole header left other rest) ≡ ending_before (length (header ++ left)) (handed_out n (whole header left run rest)) ++ others
  -- "every record beginning after the first line feed behind the run": behind any one
  pub behind : (a c : List ℕ) → rest ≡ a ++ 10 ∷ c → Behind n header left run other a c
  -- "All other bytes handed out are parts of lines standing in the damaged file."
  pub parts : Each (λ g. InLines (whole header left other rest) g.what) (handed_out n (whole header left other rest))
  -- and the line number that is told with an error is the true one in the damaged file
  pub lines : TrueLines n (whole header left other rest)

-- for both kinds
abbrev pub Demand3 : Type 0
Demand3 =
    (kind n : ℕ) → digits_of kind ≡ Some n → (header left run other rest : List ℕ) → Replaced kind header left run other rest
    → Kept kind n header left run other rest
