-- What is spliced by the marks of the runs is the new file: the old bytes between two runs are the lines of the records there.
use mathlib.Core.Path.{◌≡◌, refl, sym, ap, ◌∙◌}
use mathlib.Core.List.{List, [], ◌∷◌, ◌++◌, append_assoc}
use Prim.Native.Nat.{ℕ, ◌+◌, ◌*◌, ◌-◌, ◌≤◌}
use native.Mathlib.Omega.{arith}
use lib.ListN.{length, take, drop, take-append-drop}
use lib.Seq.{take-add, drop-drop, take-append_seam, drop-append_seam}
use Rattle.class.specs.Class.{paper}
use Rattle.compare.specs.Order.{order_of}
use Rattle.decode.specs.declared.reference.Record.{Record}
use Rattle.decode.specs.Entry.{Entry, entry_of}
use Rattle.decode.specs.Record.{decoded}
use Rattle.iter.specs.Entries.{entries_of}
use Rattle.iter.specs.Items.{Item, items, name_in, name_of, bytes_of}
use Rattle.checks.specs.Check.{judge_body}
use Rattle.checks.specs.Passes.{Passes}
use Rattle.iter.proofs.Items.{tile}
use Rattle.checks.proofs.Passes.{judged}
use Rattle.parts.specs.Parts.{edit_name}
use Rattle.put.specs.Put.{over}
use Rattle.put.specs.Cr.{without_cr}
use Rattle.put.proofs.Laws.{over_fits}
use Rattle.put.proofs.Crs.{without_append}
use Rattle.lines.specs.Lines.{lines_of, lines_of_all, header_line}
use Rattle.merge.specs.Override.{Override, edit_at, edits_at}
use Rattle.merge.specs.Merge.{overridden, new_file}
use Rattle.runs.specs.Runs.{Run, run, marks_of}
use Rattle.merge.specs.Splice.{spliced, spliced_file}
use Rattle.merge.proofs.GoodItems.{OfGood}
use Rattle.merge.proofs.OldLines.{PlainRecord, AllPlain, olds_plain}
use Rattle.runs.proofs.RunSteps.{runs_less, runs_equal, runs_greater, length_runs}
use Rattle.runs.proofs.RunTurns.{runs_of, length_marks}
use Rattle.merge.proofs.Splice.{new_lines, old_bytes}
use Rattle.std.specs.declared.cmp.Ordering.{Ordering}
use Rattle.std.specs.declared.cmp.Ordering.TheVariants.{Equal, Greater, Less}
use Rattle.std.specs.declared.result.Result.{Result}
use Rattle.std.specs.declared.result.Result.TheVariants.{Err, Ok}
use Rattle.decode.specs.declared.reference.Fault.{Fault}

-- ---- lines of more than one entry

lines_append : (a b : List Entry) → lines_of_all (a ++ b) ≡ lines_of_all a ++ lines_of_all b
lines_append [] b = refl
lines_append (e ∷ a) b = ap (λ l. lines_of e ++ l) (lines_append a b) ∙ sym (append_assoc (lines_of e) (lines_of_all a) (lines_of_all b))

lines_plain : (n : ℕ) (l : List Item) → AllPlain n l → without_cr (bytes_of l) ≡ lines_of_all (entries_of n l)
lines_plain n [] a = refl
lines_plain n (i ∷ l) a = without_append i.bytes (bytes_of l) ∙ go i.what a.0 (lines_plain n l a.1)
  where
    go : (w : Result Record Fault) → OfGood (PlainRecord n) w i.bytes → without_cr (bytes_of l) ≡ lines_of_all (entries_of n l)
        → without_cr i.bytes ++ without_cr (bytes_of l) ≡ lines_of_all (decoded w (λ r. entry_of n i.bytes r ∷ entries_of n l) (λ f. entries_of n l))
    go (Ok r) first rest = rw (first, rest)
    go (Err f) first rest = absurd first

-- ---- the old records overridden by the edits, one of either at a time

overridden_none : (olds : List Entry) → overridden olds [] ≡ olds
overridden_none [] = refl
overridden_none (r ∷ rs) = refl

module _ (r : Entry) (rs : List Entry) (e : Override) (es : List Override) where
  keeps : order_of r.name e.name ≡ Less → overridden (r ∷ rs) (e ∷ es) ≡ r ∷ overridden rs (e ∷ es)
  keeps o = rw o

  replaces : order_of r.name e.name ≡ Equal → overridden (r ∷ rs) (e ∷ es) ≡ e.new ++ overridden rs es
  replaces o = rw o

  precedes : order_of r.name e.name ≡ Greater → overridden (r ∷ rs) (e ∷ es) ≡ e.new ++ overridden (r ∷ rs) es
  precedes o = rw o

-- ---- old bytes from one place up to another, where some items' bytes stand behind

module _ (file : List ℕ) where
  none_old : (place : ℕ) → old_bytes file place place ≡ []
  none_old place = let z : place - place ≡ 0 = omega arith in rw z

  module _ (from place : ℕ) (h : from ≤ place) where
    behind_old : drop (place - from) (drop from file) ≡ drop place file
    behind_old = let z : from + (place - from) ≡ place = omega arith in drop-drop (place - from) from file ∙ ap (λ (k : ℕ). drop k file) z

    all_old : without_cr (drop from file) ≡ old_bytes file from place ++ without_cr (drop place file)
    all_old =
        ap without_cr (sym (take-append-drop (place - from) (drop from file)))
        ∙ without_append (take (place - from) (drop from file)) (drop (place - from) (drop from file))
        ∙ ap (λ s. old_bytes file from place ++ without_cr s) behind_old

    more_old : (b rest : List ℕ) → drop place file ≡ b ++ rest → old_bytes file from (place + length b) ≡ old_bytes file from place ++ without_cr b
    more_old b rest e =
        let z : place + length b - from ≡ place - from + length b = omega arith in
        ap (λ (k : ℕ). without_cr (take k (drop from file))) z
        ∙ ap without_cr (take-add (place - from) (length b) (drop from file))
        ∙ without_append (take (place - from) (drop from file)) (take (length b) (drop (place - from) (drop from file)))
        ∙ ap (λ s. old_bytes file from place ++ without_cr (take (length b) s)) (behind_old ∙ e)
        ∙ ap (λ s. old_bytes file from place ++ without_cr s) (take-append_seam b rest)

  next_old : (place : ℕ) (b rest : List ℕ) → drop place file ≡ b ++ rest → drop (place + length b) file ≡ rest
  next_old place b rest e = sym (drop-drop (length b) place file) ∙ ap (drop (length b)) e ∙ drop-append_seam b rest

-- ---- splicing by the runs among some items

module _ (n : ℕ) (file list : List ℕ) where
  -- what is spliced from a place on, where the items l begin at a place behind it
  abbrev Made : ℕ → ℕ → List Item → List ℕ → Type 0
  Made from place l ps =
      spliced n file list from ps (marks_of (runs_of n list place l ps))
      ≡ old_bytes file from place ++ lines_of_all (overridden (entries_of n l) (edits_at n list ps))

  -- an edit's run ends at a place, from which the rest is spliced
  one_edit : (from place to p : ℕ) (ps : List ℕ) (rs : List Run) (rest : List Entry)
      → spliced n file list to ps (marks_of rs) ≡ old_bytes file to to ++ lines_of_all rest
      → spliced n file list from (p ∷ ps) (marks_of (run place to ∷ rs)) ≡ old_bytes file from place ++ lines_of_all ((edit_at n list p).new ++ rest)
  one_edit from place to p ps rs rest e =
      ap (λ l. old_bytes file from place ++ (new_lines n list p ++ l)) (e ∙ ap (λ o. o ++ lines_of_all rest) (none_old file to))
      ∙ ap (λ l. old_bytes file from place ++ l) (sym (lines_append (edit_at n list p).new rest))

  -- one edit, where the first item is a record
  module _
      (r : Record)
      (bytes : List ℕ)
      (plain : PlainRecord n r bytes)
      (l : List Item)
      (p : ℕ)
      (ps : List ℕ)
      (from place : ℕ)
      (d : drop place file ≡ bytes ++ bytes_of l)
      (h : from ≤ place)
    where
      abbrev i : Item
      i = record { what = Ok r; bytes = bytes }

      abbrev next : ℕ
      next = place + length bytes

      made_one : (o : Ordering) → order_of (name_of n i) (edit_name list p) ≡ o
          → Made from next l (p ∷ ps) → Made next next l ps → Made place place (i ∷ l) ps → Made from place (i ∷ l) (p ∷ ps)
      made_one Less o less equal greater =
          let rest = overridden (entries_of n l) (edits_at n list (p ∷ ps)) in
          ap (λ rs. spliced n file list from (p ∷ ps) (marks_of rs)) (runs_less n list place i l p ps o)
          ∙ less
          ∙ ap (λ s. s ++ lines_of_all rest) (more_old file from place h bytes (bytes_of l) d)
          ∙ append_assoc (old_bytes file from place) (without_cr bytes) (lines_of_all rest)
          ∙ ap (λ s. old_bytes file from place ++ (s ++ lines_of_all rest)) plain
          ∙ ap (λ es. old_bytes file from place ++ lines_of_all es) (sym (keeps (entry_of n bytes r) (entries_of n l) (edit_at n list p) (edits_at n list ps) o))
      made_one Equal o less equal greater =
          ap (λ rs. spliced n file list from (p ∷ ps) (marks_of rs)) (runs_equal n list place i l p ps o)
          ∙ one_edit from place next p ps (runs_of n list next l ps) (overridden (entries_of n l) (edits_at n list ps)) equal
          ∙ ap (λ es. old_bytes file from place ++ lines_of_all es) (sym (replaces (entry_of n bytes r) (entries_of n l) (edit_at n list p) (edits_at n list ps) o))
      made_one Greater o less equal greater =
          ap (λ rs. spliced n file list from (p ∷ ps) (marks_of rs)) (runs_greater n list place i l p ps o)
          ∙ one_edit from place place p ps (runs_of n list place (i ∷ l) ps) (overridden (entries_of n (i ∷ l)) (edits_at n list ps)) greater
          ∙ ap (λ es. old_bytes file from place ++ lines_of_all es) (sym (precedes (entry_of n bytes r) (entries_of n l) (edit_at n list p) (edits_at n list ps) o))

  made : (l : List Item) (ps : List ℕ) (from place : ℕ) → AllPlain n l → drop place file ≡ bytes_of l → from ≤ place → Made from place l ps
  made l [] from place a d h =
      all_old file from place h
      ∙ ap (λ s. old_bytes file from place ++ without_cr s) d
      ∙ ap (λ s. old_bytes file from place ++ s) (lines_plain n l a)
      ∙ ap (λ es. old_bytes file from place ++ lines_of_all es) (sym (overridden_none (entries_of n l)))
  made [] (p ∷ ps) from place a d h =
      one_edit from place place p ps (runs_of n list place [] ps) (overridden [] (edits_at n list ps)) (made [] ps place place a d (omega arith))
  made (i ∷ l) (p ∷ ps) from place a d h =
      let next = place + length i.bytes in
      let behind = next_old file place i.bytes (bytes_of l) d in
      go i.what a.0
      (made l (p ∷ ps) from next a.1 behind (omega arith))
      (made l ps next next a.1 behind (omega arith))
      (made (i ∷ l) ps place place a d (omega arith))
    where
      read_as : Result Record Fault → List Item
      read_as w = record { what = w; bytes = i.bytes } ∷ l

      go : (w : Result Record Fault) → OfGood (PlainRecord n) w i.bytes
          → Made from (place + length i.bytes) l (p ∷ ps)
          → Made (place + length i.bytes) (place + length i.bytes) l ps
          → Made place place (read_as w) ps
          → Made from place (read_as w) (p ∷ ps)
      go (Ok r) plain =
          made_one r i.bytes plain l p ps from place d h (order_of (name_in n (Ok r) i.bytes) (edit_name list p)) refl
      go (Err f) plain = absurd plain

  -- marks behind those of the edits do not matter
  marks_front : (ps : List ℕ) (rs : List Run) (from : ℕ) (more : List ℕ) → length rs ≡ length ps
      → spliced n file list from ps (marks_of rs ++ more) ≡ spliced n file list from ps (marks_of rs)
  marks_front [] rs from more h = refl
  marks_front (p ∷ ps) [] from more h = absurd (omega arith)
  marks_front (p ∷ ps) (run start end ∷ rs) from more h =
      ap (λ s. old_bytes file from start ++ (new_lines n list p ++ s)) (marks_front ps rs end more (omega arith))

-- ---- a file that passes the check

pub clean_passes : (n : ℕ) (file : List ℕ) (body count : ℕ) → judge_body paper n file body ≡ Ok count
    → Passes n (items paper n (drop body file)) count
unfolding judge_body
clean_passes n file body count e = judged n body (items paper n (drop body file)) e

pub spliced_is_new : (n : ℕ) (file : List ℕ) (body : ℕ) (list ps marks₀ marks : List ℕ) (count : ℕ)
    → judge_body paper n file body ≡ Ok count
    → 2 * length ps ≤ length marks₀
    → marks ≡ over marks₀ 0 (marks_of (runs_of n list body (items paper n (drop body file)) ps))
    → spliced_file header_line n file list body ps marks ≡ new_file (entries_of n (items paper n (drop body file))) (edits_at n list ps)
unfolding spliced_file new_file
spliced_is_new n file body list ps marks₀ marks count clean room m =
    let olds = items paper n (drop body file) in
    let rs = runs_of n list body olds ps in
    let long : length rs ≡ length ps = length_runs n list body olds ps in
    let fits : length (marks_of rs) ≤ length marks₀ = omega (arith, length_marks rs) in
    let tiled : drop body file ≡ bytes_of olds = sym (tile paper n (drop body file)) in
    let plain = olds_plain n (drop body file) (clean_passes n file body count clean).good in
    ap (λ l. header_line ++ spliced n file list body ps l) (m ∙ over_fits marks₀ (marks_of rs) fits)
    ∙ ap (λ s. header_line ++ s) (marks_front n file list ps rs body (drop (length (marks_of rs)) marks₀) long)
    ∙ ap (λ s. header_line ++ s) (made n file list olds ps body body plain tiled (omega arith))
    ∙ ap (λ s. header_line ++ (s ++ lines_of_all (overridden (entries_of n olds) (edits_at n list ps)))) (none_old file body)
