-- The runs of the edits among the items from a place on, one item after another, and their marks.
use mathlib.Core.Path.{◌≡◌, refl, sym, ap, ◌∙◌}
use mathlib.Core.Bool.{Bool, true, false}
use mathlib.Core.List.{List, [], ◌∷◌, ◌++◌}
use Prim.Native.Nat.{ℕ, suc, ◌+◌, ◌*◌, ◌≤◌}
use native.Mathlib.Omega.{arith}
use lib.ListN.{length, drop, drop_of_length-le}
use lib.Seq.{drop-drop}
use Rattle.class.specs.Class.{Classes}
use Rattle.parse.specs.Choice.{if}
use Rattle.compare.specs.Order.{order_of, smaller, by_order}
use Rattle.decode.specs.declared.reference.Fault.{Fault}
use Rattle.decode.specs.declared.reference.Record.{Record}
use Rattle.decode.specs.Record.{decoded}
use Rattle.iter.specs.Items.{Item, items, name_of}
use Rattle.iter.proofs.ItemRead.{Reads, named}
use Rattle.iter.proofs.Items.{items_nil}
use Rattle.iter.proofs.Turns.{head_bad, head_good}
use Rattle.checks.specs.declared.Refusal.{Refusal}
use Rattle.checks.specs.declared.Refusal.TheVariants.{BadHeader, BadRecord, Unsorted}
use Rattle.checks.specs.Check.{judge, judge_body}
use Rattle.checks.proofs.CheckTurns.{Spot, Stopped}
use Rattle.put.specs.Put.{over}
use Rattle.put.proofs.Laws.{over_nil, over_twice}
use Rattle.parts.specs.Parts.{edit_name}
use Rattle.runs.specs.Runs.{Run, run, settles, at_end, surveyed, marks_of}
use Rattle.std.specs.declared.cmp.Ordering.{Ordering}
use Rattle.std.specs.declared.cmp.Ordering.TheVariants.{Equal, Greater, Less}
use Rattle.std.specs.declared.result.Result.{Result}
use Rattle.std.specs.declared.result.Result.TheVariants.{Err, Ok}

-- the runs of the edits at ps among all the items, which are the old records of a file that passes the check
abbrev pub runs_of : ℕ → List ℕ → ℕ → List Item → List ℕ → List Run
runs_of n list place [] ps = at_end place ps
runs_of n list place (i ∷ l) ps =
    let here = settles list (name_of n i) place (place + length i.bytes) ps in
    here ++ runs_of n list (place + length i.bytes) l (drop (length here) ps)

pub marks_append : (a b : List Run) → marks_of (a ++ b) ≡ marks_of a ++ marks_of b
marks_append [] b = refl
marks_append (run from to ∷ a) b = ap (λ l. from ∷ to ∷ l) (marks_append a b)

pub length_marks : (l : List Run) → length (marks_of l) ≡ 2 * length l
length_marks [] = refl
length_marks (run from to ∷ l) = omega (arith, length_marks l)

-- a record settles no more edits than there are
pub settles_le : (list name : List ℕ) (place next : ℕ) (ps : List ℕ) → length (settles list name place next ps) ≤ length ps
settles_le list name place next [] = omega arith
settles_le list name place next (p ∷ ps) = go (order_of name (edit_name list p)) (settles_le list name place next ps)
  where
    go : (o : Ordering) → length (settles list name place next ps) ≤ length ps
        → length (by_order o [] (run place next ∷ []) (run place place ∷ settles list name place next ps)) ≤ length (p ∷ ps)
    go Less h = omega arith
    go Equal h = omega arith
    go Greater h = omega arith

-- the marks of the runs among the items from a place on, behind a record of the name last, put from the number j on
module _ (byte : Classes) (n : ℕ) (file list index : List ℕ) where
  abbrev pub marked : ℕ → List ℕ → ℕ → List ℕ → List ℕ
  marked place last j marks = over marks (2 * j) (marks_of (surveyed n list place last (items byte n (drop place file)) (drop j index)))

  module _ (place : ℕ) (last : List ℕ) (j : ℕ) (marks : List ℕ) where
    pub marked_end : length file ≤ place → marked place last j marks ≡ over marks (2 * j) (marks_of (at_end place (drop j index)))
    marked_end h = rw (drop_of_length-le file h, items_nil byte n)

    marked_bad : {f : Fault} → Reads byte n file place (Err f) → marked place last j marks ≡ marks
    marked_bad {f} k = let h = head_bad byte n file place k.inside f k.is in rw (h.all, h.is) (over_nil marks (2 * j))

    module _ {r : Record} (k : Reads byte n file place (Ok r)) where
      abbrev here : List Run
      here = settles list (named k) place (place + r.size) (drop j index)

      abbrev behind : List ℕ → List Run
      behind ps = surveyed n list (place + r.size) (named k) (items byte n (drop (place + r.size) file)) ps

      surveyed_here : surveyed n list place last (items byte n (drop place file)) (drop j index)
          ≡ if (smaller last (named k)) (here ++ behind (drop (length here) (drop j index))) []
      surveyed_here = let h = head_good byte n file place r k.is k.inside in rw (h.all, h.is, h.name, h.long)

      marked_unsorted : smaller last (named k) ≡ false → marked place last j marks ≡ marks
      marked_unsorted e = rw (surveyed_here, e) (over_nil marks (2 * j))

      pub marked_on : smaller last (named k) ≡ true → (x : List ℕ) → x ≡ named k → (j' : ℕ) (marks' : List ℕ) → j' ≡ j + length here
          → marks' ≡ over marks (2 * j) (marks_of here)
          → marked (place + r.size) x j' marks' ≡ marked place last j marks
      marked_on e x same j' marks' number put =
          let rest = behind (drop (j + length here) index) in
          ap (λ y. marked (place + r.size) y j' marks') same
          ∙ ap (λ i. marked (place + r.size) (named k) i marks') number
          ∙ ap (λ d. over d (2 * (j + length here)) (marks_of rest)) put
          ∙ over_twice marks (2 * j) (2 * (j + length here)) (marks_of here) (marks_of rest) (omega (arith, length_marks here))
          ∙ ap (over marks (2 * j)) (sym (marks_append here rest))
          ∙ ap (λ ps. over marks (2 * j) (marks_of (here ++ behind ps))) (sym (drop-drop (length here) j index))
          ∙ ap (λ b. over marks (2 * j) (marks_of (if b (here ++ behind (drop (length here) (drop j index))) []))) (sym e)
          ∙ ap (λ l. over marks (2 * j) (marks_of l)) (sym surveyed_here)

-- where the check stops, no further edit gets a run
pub marked_stop : (s : Spot) (list index : List ℕ) (j : ℕ) (marks : List ℕ) (why : Refusal) → Stopped s why
    → marked s.byte s.n s.file list index s.place s.last j marks ≡ marks
marked_stop s list index j marks (BadHeader text) x = absurd x
marked_stop s list index j marks (BadRecord place f) (_, k) = marked_bad s.byte s.n s.file list index s.place s.last j marks k
marked_stop s list index j marks (Unsorted place) (_, r, k, e) = marked_unsorted s.byte s.n s.file list index s.place s.last j marks k e

-- in a file that passes there is no fault before an edit
pub surveyed_clean : (n : ℕ) (list : List ℕ) (place count : ℕ) (last : List ℕ) (l : List Item) (ps : List ℕ) (all : ℕ) → judge n place count last l ≡ Ok all
    → surveyed n list place last l ps ≡ runs_of n list place l ps
surveyed_clean n list place count last [] ps all e = refl
surveyed_clean n list place count last (i ∷ l) ps all e =
    go i.what (name_of n i) (smaller last (name_of n i)) refl (surveyed_clean n list (place + length i.bytes) (suc count) (name_of n i) l) e
  where
    next : ℕ
    next = place + length i.bytes

    here : List ℕ → List Run
    here name = settles list name place next ps

    go : (w : Result Record Fault) (name : List ℕ) (b : Bool) → smaller last name ≡ b
        → ((qs : List ℕ) (c : ℕ) → judge n next (suc count) name l ≡ Ok c → surveyed n list next name l qs ≡ runs_of n list next l qs)
        → decoded w (λ r. if (smaller last name) (judge n next (suc count) name l) (Err (Unsorted place))) (λ f. Err (BadRecord place f)) ≡ Ok all
        → decoded w (λ r. if (smaller last name) (here name ++ surveyed n list next name l (drop (length (here name)) ps)) []) (λ f. [])
        ≡ here name ++ runs_of n list next l (drop (length (here name)) ps)
    go (Err f) name b v later d = absurd (let z : ◌≡◌ {A = ℕ} 0 1 = cc in omega arith)
    go (Ok r) name false v later d = let x = rw v at d in absurd (let z : ◌≡◌ {A = ℕ} 0 1 = cc in omega arith)
    go (Ok r) name true v later d = rw v (ap (λ x. here name ++ x) (later (drop (length (here name)) ps) all (rw v at d)))

pub surveyed_body : (byte : Classes) (n : ℕ) (file list : List ℕ) (body : ℕ) (ps : List ℕ) (count : ℕ) → judge_body byte n file body ≡ Ok count
    → surveyed n list body [] (items byte n (drop body file)) ps ≡ runs_of n list body (items byte n (drop body file)) ps
unfolding judge_body
surveyed_body byte n file list body ps count e = surveyed_clean n list body 0 [] (items byte n (drop body file)) ps count e
