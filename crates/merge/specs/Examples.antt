-- Document 01's worked merge, and a small case of each other outcome that small inputs reach.
use Rattle.std.specs.Prelude.{List, [], ◌∷◌, ◌++◌, ℕ, length, replicate, Result, Ok, Err}
use Rattle.decode.specs.declared.reference.Fault.TheVariants.{Id}
use Rattle.header.specs.Header.{mark}
use Rattle.lines.specs.Lines.{header_line}
use Rattle.checks.specs.declared.Refusal.TheVariants.{BadHeader, BadRecord, Unsorted}
use Rattle.edit.specs.declared.EditFault.TheVariants.{Malformed, BadName}
use Rattle.edits.specs.declared.list.ListFault.TheVariants.{BadEdit, TooMany}
use Rattle.merge.specs.Merge.{merge_answer, merge_number, index_answer, output_after}
use Rattle.merge.specs.declared.NotMerged.{NotMerged}
use Rattle.merge.specs.declared.NotMerged.TheVariants.{BadList, NoRecord, NothingToDo, Refused, ShortIndex, ShortOutput, TooLarge, Twins, UnknownKind}

-- what is lent to a merge, its answer and the paper's number for it, and the index and the output afterwards
pub record Case : Type 0 where
  pub kind : ℕ
  pub old : List ℕ
  pub edits : List ℕ
  pub index : List ℕ
  pub out : List ℕ
  pub answer : Result ℕ NotMerged
  pub number : ℕ
  pub index_then : List ℕ
  pub out_then : List ℕ

-- the case as it computes; the number is that of the answer, which is itself computed
abbrev pub computed : Case → Case
computed c =
    record {
      kind = c.kind;
      old = c.old;
      edits = c.edits;
      index = c.index;
      out = c.out;
      answer = merge_answer c.kind c.old c.edits (length c.index) (length c.out);
      number = merge_number c.answer;
      index_then = index_answer c.kind c.old c.edits c.index;
      out_then = output_after c.kind c.old c.edits (length c.index) c.out;
    }

abbrev pub all_computed : List Case → List Case
all_computed [] = []
all_computed (c ∷ l) = computed c ∷ all_computed l

-- ---- bytes: digits `1` to `4` are 49 to 52, letters `a` to `c` are 97 to 99, LF is 10, CR 13, `^` 94

-- `refs/s/` and a letter
abbrev pub name : ℕ → List ℕ
name letter = 114 ∷ 101 ∷ 102 ∷ 115 ∷ 47 ∷ 115 ∷ 47 ∷ letter ∷ []

abbrev pub lf : List ℕ
lf = 10 ∷ []

abbrev pub crlf : List ℕ
crlf = 13 ∷ 10 ∷ []

-- an id of n times a digit, a space, the name and a line end; and the line of a peeled id
abbrev pub ref_line : ℕ → ℕ → ℕ → List ℕ → List ℕ
ref_line n digit letter end = replicate n digit ++ 32 ∷ (name letter ++ end)

abbrev pub peel_line : ℕ → ℕ → List ℕ → List ℕ
peel_line n digit end = 94 ∷ (replicate n digit ++ end)

-- edits of such a name, which has 8 bytes, with its raw ids: kind byte, length, name, ids
abbrev pub delete : ℕ → List ℕ
delete letter = 0 ∷ 8 ∷ name letter

abbrev pub update : ℕ → List ℕ → List ℕ
update letter id = 1 ∷ 8 ∷ (name letter ++ id)

abbrev pub update_peeled : ℕ → List ℕ → List ℕ → List ℕ
update_peeled letter id peeled = 2 ∷ 8 ∷ (name letter ++ (id ++ peeled))

-- ---- the worked merge

-- "old is header, `1* refs/s/a`, `2* refs/s/c`, `^3*`"
abbrev pub old_file : List ℕ
old_file = header_line ++ (ref_line 40 49 97 lf ++ (ref_line 40 50 99 lf ++ peel_line 40 51 lf))

-- "delete `refs/s/c` (10 bytes), update `refs/s/b` to 4* (30 bytes)": 4* is twenty raw bytes 68
abbrev pub two_edits : List ℕ
two_edits = delete 99 ++ update 98 (replicate 20 68)

-- "header, `1* refs/s/a`, `4* refs/s/b`, each line with LF"
abbrev pub new_bytes : List ℕ
new_bytes = header_line ++ (ref_line 40 49 97 lf ++ ref_line 40 52 98 lf)

-- "46 + 50 + 50 + 42 = 188 bytes", 10 and 30 bytes, "146 bytes"
abbrev pub lengths : List ℕ
lengths = length header_line ∷ length old_file ∷ length (delete 99) ∷ length two_edits ∷ length new_bytes ∷ []

-- "Index 10, 0"; an entry behind them stays as it was, which is 7
abbrev pub worked : List ℕ → Result ℕ NotMerged → ℕ → List ℕ → Case
worked out answer number out_then =
    record {
      kind = 1;
      old = old_file;
      edits = two_edits;
      index = 7 ∷ 7 ∷ 7 ∷ [];
      out = out;
      answer = answer;
      number = number;
      index_then = 10 ∷ 0 ∷ 7 ∷ [];
      out_then = out_then;
    }

-- ---- other cases

-- a merge that is done: the new bytes just fit
abbrev pub done : ℕ → List ℕ → List ℕ → List ℕ → List ℕ → ℕ → List ℕ → Case
done kind old edits index index_then len new =
    record {
      kind = kind;
      old = old;
      edits = edits;
      index = index;
      out = replicate len 0;
      answer = Ok len;
      number = 0;
      index_then = index_then;
      out_then = new;
    }

-- one that is refused: an output of one byte stays as it was
abbrev pub refused : ℕ → List ℕ → List ℕ → List ℕ → List ℕ → Result ℕ NotMerged → ℕ → Case
refused kind old edits index index_then answer number =
    record {
      kind = kind;
      old = old;
      edits = edits;
      index = index;
      out = 5 ∷ [];
      answer = answer;
      number = number;
      index_then = index_then;
      out_then = 5 ∷ [];
    }

abbrev pub cases : List Case
cases =
    -- "New, 146 bytes"; "Output of 145: number 12, output unchanged"; of 147: "output behind it is unchanged"
    worked (replicate 146 5) (Ok 146) 0 new_bytes
    ∷ worked (replicate 145 5) (Err ShortOutput) 12 (replicate 145 5)
    ∷ worked (replicate 147 5) (Ok 146) 0 (new_bytes ++ 5 ∷ [])
    -- a file of CR LF lines comes out with LF; `A*` of the old file stays, raw bytes 170 become `a*`
    ∷ done 1 (mark ++ (crlf ++ (ref_line 40 65 97 crlf ++ peel_line 40 51 crlf))) (update 98 (replicate 20 170)) (7 ∷ []) (0 ∷ []) 188
    (header_line ++ (ref_line 40 65 97 lf ++ (peel_line 40 51 lf ++ ref_line 40 97 98 lf)))
    -- no old file, ids of 64 digits: 46 bytes, name plus 66, and 66 more with a peeled line
    ∷ done 2 [] (update_peeled 97 (replicate 32 68) (replicate 32 51)) (7 ∷ []) (0 ∷ []) 186
    (header_line ++ (ref_line 64 52 97 lf ++ peel_line 64 51 lf))
    -- 1 comes first, though the edit list is malformed, too
    ∷ refused 3 [] (3 ∷ []) (7 ∷ []) (7 ∷ []) (Err UnknownKind) 1
    -- 7 and 8 with the edit's start, before the index is seen to be short
    ∷ refused 1 [] (delete 97 ++ 3 ∷ []) [] [] (Err (BadList (BadEdit 10 Malformed))) 7
    ∷ refused 1 [] (delete 97 ++ 0 ∷ 0 ∷ []) [] [] (Err (BadList (BadEdit 10 BadName))) 8
    -- 10: an index of one for two edits is unchanged, and that they are of one name is not seen
    ∷ refused 1 [] (delete 97 ++ delete 97) (7 ∷ []) (7 ∷ []) (Err ShortIndex) 10
    -- 11 tells the second place of the first equal pair, here of the edits of `b`; from it on the index is filled. `#` is not seen
    ∷ refused 1 (35 ∷ []) (delete 98 ++ (delete 97 ++ delete 98)) (7 ∷ 7 ∷ 7 ∷ []) (10 ∷ 0 ∷ 20 ∷ []) (Err (Twins 20)) 11
    -- 2 with the length of its text: `#x` CR LF
    ∷ refused 1 (35 ∷ 120 ∷ crlf) (delete 97) (7 ∷ []) (0 ∷ []) (Err (Refused (BadHeader 2))) 2
    -- 41 and 6 with the item's place in the file, though there are deletes alone: `x` LF behind a record; `a` behind `b`
    ∷ refused 1 (ref_line 40 49 97 lf ++ 120 ∷ lf) (delete 98) (7 ∷ []) (0 ∷ []) (Err (Refused (BadRecord 50 Id))) 41
    ∷ refused 1 (ref_line 40 49 98 lf ++ ref_line 40 49 97 lf) (delete 99) (7 ∷ []) (0 ∷ []) (Err (Refused (Unsorted 50))) 6
    -- 13: deletes alone of absent names, one before and one behind the record; no edits; an empty old file and a delete
    ∷ refused 1 (ref_line 40 49 98 lf) (delete 99 ++ delete 97) (7 ∷ 7 ∷ []) (10 ∷ 0 ∷ []) (Err NothingToDo) 13
    ∷ refused 1 (ref_line 40 49 98 lf) [] [] [] (Err NothingToDo) 13
    ∷ refused 1 [] (delete 97) (7 ∷ []) (0 ∷ []) (Err NothingToDo) 13
    -- 14: a delete of the only record
    ∷ refused 1 (ref_line 40 49 97 lf) (delete 97) (7 ∷ []) (0 ∷ []) (Err NoRecord) 14
    ∷ []

-- ---- the numbers of the two outcomes that only long inputs reach: 4,097 edits, and more than 1,073,741,824 bytes

pub record LongInput : Type 0 where
  pub outcome : Result ℕ NotMerged
  pub number : ℕ

abbrev pub numbered : List LongInput → List LongInput
numbered [] = []
numbered (c ∷ l) = record { outcome = c.outcome; number = merge_number c.outcome } ∷ numbered l

abbrev pub long_inputs : List LongInput
long_inputs = record { outcome = Err (BadList (TooMany 0)); number = 9 } ∷ record { outcome = Err TooLarge; number = 17 } ∷ []
