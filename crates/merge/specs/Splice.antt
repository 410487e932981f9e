-- How the new file is made from the runs, for the contracts of the inner functions. `spliced-is-new` (proofs/NewFile.antt) shows that this is the new
-- file of Merge.antt.
use Rattle.std.specs.Prelude.{◌≡◌, Bool, List, [], ◌∷◌, ◌++◌, ℕ, ◌-◌, eqb, ltb, get_or, length, take, drop, Result, Ok, Err}
use Rattle.parse.specs.Choice.{if}
use Rattle.compare.specs.Order.{order_of}
use Rattle.parts.specs.Parts.{edit_name}
use Rattle.put.specs.Cr.{without_cr}
use Rattle.lines.specs.Lines.{lines_of_all}
use Rattle.merge.specs.Override.{edit_at}
use Rattle.std.specs.declared.cmp.Ordering.TheVariants.{Less}
use Rattle.merge.specs.declared.NotMerged.{NotMerged}
use Rattle.merge.specs.declared.NotMerged.TheVariants.{NoRecord, NothingToDo, ShortOutput}

-- ---- the new file by the marks: old bytes without their CRs up to where an edit's run starts; the edit's lines; and on from where
-- the run ends

abbrev pub spliced : ℕ → List ℕ → List ℕ → ℕ → List ℕ → List ℕ → List ℕ
spliced n file list from [] marks = without_cr (drop from file)
spliced n file list from (p ∷ ps) marks =
    without_cr (take (get_or marks 0 0 - from) (drop from file))
    ++ (lines_of_all (edit_at n list p).new ++ spliced n file list (get_or marks 1 0) ps (drop 2 marks))

unfoldable pub spliced_file : List ℕ → ℕ → List ℕ → List ℕ → ℕ → List ℕ → List ℕ → List ℕ
spliced_file header n file list body ps marks = header ++ spliced n file list body ps marks

-- "13, 14, 12" by them: no record remains where the new file is its header
unfoldable pub spliced_answer : List ℕ → Bool → List ℕ → ℕ → Result ℕ NotMerged
spliced_answer header still new room =
    if still (Err NothingToDo) (if (eqb (length new) (length header)) (Err NoRecord) (if (ltb room (length new)) (Err ShortOutput) (Ok (length new))))

-- ---- what the survey relies on: each edit's name is smaller than those behind it

abbrev pub Above : List ℕ → List ℕ → List ℕ → Type 0
Above list name [] = Unit {0}
Above list name (p ∷ ps) = (order_of name (edit_name list p) ≡ Less) × Above list name ps

abbrev pub Rising : List ℕ → List ℕ → Type 0
Rising list [] = Unit {0}
Rising list (p ∷ ps) = Above list (edit_name list p) ps × Rising list ps
