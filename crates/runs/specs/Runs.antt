-- The runs of old bytes that the edits replace: what `runs` promises the merge. Who only asks what a merge writes need not read it.
use Rattle.std.specs.Prelude.{Bool, true, ◌&&◌, List, [], ◌∷◌, ◌++◌, ℕ, ◌+◌, eqb, get_or, length, drop}
use Rattle.parse.specs.Choice.{if}
use Rattle.compare.specs.Order.{order_of, smaller, by_order}
use Rattle.decode.specs.Record.{decoded}
use Rattle.iter.specs.Items.{Item, name_of}
use Rattle.parts.specs.Parts.{edit_kind, edit_name}

pub data Run : Type 0 where
  run : (from to : ℕ) → Run

-- the runs that a record settles. It has a name and reaches from a place to the next; ps are the places of edits in name order. An edit of a
-- smaller name belongs in front of the record: its run is empty. An edit of the record's name replaces it: its run is the record. An edit of a
-- greater name belongs further behind, and the record does not settle it
abbrev pub settles : List ℕ → List ℕ → ℕ → ℕ → List ℕ → List Run
settles list name place next [] = []
settles list name place next (p ∷ ps) =
    by_order (order_of name (edit_name list p)) [] (run place next ∷ []) (run place place ∷ settles list name place next ps)

-- edits that belong behind all records have empty runs there
abbrev pub at_end : ℕ → List ℕ → List Run
at_end place [] = []
at_end place (p ∷ ps) = run place place ∷ at_end place ps

-- the runs of the edits at ps, where these items are the old records and the first of them begins at a place; last is the name of the record before it.
-- Behind the first fault of the check no edit gets a run
abbrev pub surveyed : ℕ → List ℕ → ℕ → List ℕ → List Item → List ℕ → List Run
surveyed n list place last [] ps = at_end place ps
surveyed n list place last (i ∷ l) ps =
    let here = settles list (name_of n i) place (place + length i.bytes) ps in
    decoded i.what
    (λ r. if (smaller last (name_of n i)) (here ++ surveyed n list (place + length i.bytes) (name_of n i) l (drop (length here) ps)) [])
    (λ f. [])

-- the start and the end of each run, one after another
abbrev pub marks_of : List Run → List ℕ
marks_of [] = []
marks_of (run from to ∷ l) = from ∷ to ∷ marks_of l

-- no update, and every run is empty
abbrev pub is_still : List ℕ → List ℕ → List ℕ → Bool
is_still list [] marks = true
is_still list (p ∷ ps) marks =
    eqb (edit_kind list p) 0 && (eqb (get_or marks 0 0) (get_or marks 1 0) && is_still list ps (drop 2 marks))
