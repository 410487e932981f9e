-- Files with a bad line, and what each place tells of it: kind 1, ids of 40 digits. The night desk "was told `line 7` and the fault was on line 11, because peeled
-- lines aren't counted": here every number can be counted by eye.
use Rattle.std.specs.Prelude.{◌≡◌, List, [], ◌∷◌, ◌++◌, map, ℕ, replicate}
use Rattle.told_lines.specs.Told.{stepped, walked, listed, checked, asked, merged}

-- an id, `refs/s/` and one more byte, a header: `# pack-refs with: sorted` with its line feed (10)
abbrev pub id : List ℕ
id = replicate 40 49

abbrev pub name : ℕ → List ℕ
name b = 114 ∷ 101 ∷ 102 ∷ 115 ∷ 47 ∷ 115 ∷ 47 ∷ b ∷ []

abbrev pub header : List ℕ
header =
    35 ∷ 32 ∷ 112 ∷ 97 ∷ 99 ∷ 107 ∷ 45 ∷ 114 ∷ 101 ∷ 102 ∷ 115 ∷ 32 ∷ 119 ∷ 105 ∷ 116 ∷ 104 ∷ 58 ∷ 32 ∷ 115 ∷ 111 ∷ 114 ∷ 116 ∷ 101 ∷ 100 ∷ 10 ∷ []

-- a record of one line, and one of two
abbrev pub record1 : ℕ → List ℕ
record1 b = id ++ 32 ∷ (name b ++ 10 ∷ [])

abbrev pub record2 : ℕ → List ℕ
record2 b = record1 b ++ 94 ∷ (id ++ 10 ∷ [])

-- what is told of the bad line that begins at a place: its line number, and the length of its text
pub record Row : Type 0 where
  pub file : List ℕ
  pub place : ℕ
  -- the plain step, and the walk that comes on line 7
  pub step : ℕ × ℕ
  pub walk : ℕ × ℕ
  -- what the walk hands on
  pub next : ℕ
  -- with a prefix
  pub prefix : ℕ × ℕ
  -- the check, `refs/s/b` asked, and a merge of one update of it
  pub check : ℕ × ℕ × ℕ
  pub ask : ℕ × ℕ × ℕ
  pub merge : ℕ × ℕ × ℕ

abbrev pub computed : List ℕ → ℕ → Row
computed file place =
    let s = stepped 1 file place in
    let w = walked 1 file place 7 in
    let p = listed 1 (name 97) file place in
    let c = checked 1 file in
    let a = asked 1 file (name 98) in
    let m = merged 1 file (1 ∷ 8 ∷ (name 98 ++ replicate 20 119)) 1 300 in
    record {
      file = file;
      place = place;
      step = (s.line, s.text_len);
      walk = (w.line, w.text_len);
      next = w.next_line;
      prefix = (p.line, p.text_len);
      check = (c.place, c.line, c.text_len);
      ask = (a.place, a.line, a.text_len);
      merge = (m.place, m.line, m.text_len);
    }

-- a bad line at a place: its number, the length of its text, and its line feeds, which are the walk's step
abbrev pub told : List ℕ → ℕ → ℕ → ℕ → ℕ → Row
told file place line text next =
    record {
      file = file;
      place = place;
      step = (line, text);
      walk = (7, text);
      next = next;
      prefix = (0, text);
      check = (place, line, text);
      ask = (place, line, text);
      merge = (place, line, text);
    }

abbrev pub rows : List Row
rows =
    -- `x` LF on line 1; `x` CR LF, whose CR stays; `x` alone, which loses nothing; an empty line
    told (120 ∷ 10 ∷ []) 0 1 1 8
    ∷ told (120 ∷ 13 ∷ 10 ∷ []) 0 1 2 8
    ∷ told (120 ∷ []) 0 1 1 7
    ∷ told (10 ∷ []) 0 1 0 8
    -- behind a record of one line, and behind one of two
    ∷ told (record1 97 ++ 120 ∷ 120 ∷ 10 ∷ []) 50 2 2 8
    ∷ told (record2 97 ++ 120 ∷ 120 ∷ 10 ∷ []) 92 3 2 8
    -- the header is a line: behind it and the two lines of a record stands line 4
    ∷ told (header ++ (record2 97 ++ 120 ∷ 120 ∷ [])) 117 4 2 7
    ∷ []

-- the single statement
abbrev pub EveryRow : Type 0
EveryRow = map (λ (r : Row). computed r.file r.place) rows ≡ rows
