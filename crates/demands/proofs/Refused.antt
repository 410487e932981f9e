-- Demand 1: every call is answered or refused with a number, and what a refused merge leaves of the lent memory.
use mathlib.Core.Path.{◌≡◌, refl, sym, ◌∙◌, subst}
use mathlib.Core.Bool.{Bool, true, false}
use mathlib.Core.List.{List, [], ◌∷◌, ◌++◌}
use mathlib.Core.Logic.{◌⊎◌, inl, inr}
use Prim.Native.Nat.{ℕ}
use native.Mathlib.Omega.{arith}
use lib.Dec.{eqb, ltb}
use lib.ListN.{length, drop}
use borrow.Author.Tests.{ne_eqb, le-ltb}
use Rattle.parse.specs.Choice.{if}
use Rattle.parse.specs.Limit.{over_limit, admission, admission_number}
use Rattle.class.specs.Class.{Classes, paper}
use Rattle.compare.specs.Order.{smaller}
use Rattle.name.specs.Name.{valid_name}
use Rattle.decode.specs.Entry.{Entry}
use Rattle.reply_file.specs.Head.{name_number}
use Rattle.decode.specs.declared.reference.Fault.{Fault}
use Rattle.decode.specs.declared.reference.Fault.TheVariants.{Id, Space, LineEnd, Name, Peeled}
use Rattle.decode.specs.declared.reference.Record.{Record}
use Rattle.decode.specs.Record.{record_of, fault_number}
use Rattle.header.specs.Header.{header_answer, header_number}
use Rattle.start.specs.Start.{start_answer, start_number}
use Rattle.iter.specs.Items.{Item, items, name_in}
use Rattle.iter.specs.Step.{plain_answer, prefix_answer, step_number}
use Rattle.walker.specs.Walk.{walk_answer}
use Rattle.checks.specs.declared.Refusal.{Refusal}
use Rattle.checks.specs.declared.Refusal.TheVariants as refusal
use Rattle.checks.specs.Check.{check_of, check_answer, check_number, refusal_number, verdict_number, turn_by, turn_of, turn_number}
use Rattle.checks.proofs.Passes.{Says, says}
use Rattle.checks.proofs.CheckMeans.{read}
use Rattle.ask.specs.declared.Told.{Told}
use Rattle.ask.specs.declared.Told.TheVariants as told
use Rattle.ask.specs.Ask.{ask_of, ask_answer, ask_number, ask_fault}
use Rattle.ask.proofs.Trusted.{trusted}
use Rattle.search.specs.Search.{search_of}
use Rattle.find.specs.Lookup.{lookup_of, lookup_answer, lookup_number}
use Rattle.find.specs.Hits.{number_of}
use Rattle.find.proofs.Hits.{hit_or_miss}
use Rattle.find.specs.PrefixStart.{prefix_start_answer, prefix_start_number}
use Rattle.loose.specs.Loose.{loose_answer, loose_number}
use Rattle.edit.specs.declared.EditFault.TheVariants as edit
use Rattle.places.specs.declared.name.Layout.TheVariants as layout
use Rattle.places.specs.Name.{standing_name}
use Rattle.sort.specs.Sorted.{sorted}
use Rattle.sort.specs.Twin.{first_twin}
use Rattle.edits.specs.declared.list.ListFault.{ListFault}
use Rattle.edits.specs.declared.list.ListFault.TheVariants as fault
use Rattle.edits.specs.List.{Listed, all, bad, edits_of, in_order, twins_by, twins_of, prepared_of, index_after, list_fault_number, prepared_number}
use Rattle.merge.specs.Override.{Override}
use Rattle.merge.specs.Merge as merged
use Rattle.merge.specs.Merge.{overridden, is_idle, new_file, old_entries, edits_in_order, finished, judged_by, judged, merge_of, output_of, merge_answer, merge_number, output_by, output_after, index_answer}
use Rattle.demands.specs.Refused.{AnsweredBy, bad_record, before_eleven, Filled, Leaves, Demand1}
use Rattle.std.specs.declared.option.Option.{Option}
use Rattle.std.specs.declared.option.Option.TheVariants.{None, Some}
use Rattle.std.specs.declared.result.Result.{Result}
use Rattle.std.specs.declared.result.Result.TheVariants.{Err, Ok}
use Rattle.edits.specs.declared.list.NotPrepared.{NotPrepared}
use Rattle.edits.specs.declared.list.NotPrepared.TheVariants as not_prepared
use Rattle.find.specs.declared.prefix_start.BadStart.{BadStart}
use Rattle.header.specs.declared.BadHeader.{BadHeader}
use Rattle.header.specs.declared.Header.{Header}
use Rattle.iter.specs.declared.step.Step.{Step}
use Rattle.loose.specs.declared.Loose.{Loose}
use Rattle.loose.specs.declared.Loose.TheVariants as loose
use Rattle.loose.specs.declared.LooseFault.{LooseFault}
use Rattle.loose.specs.declared.LooseFault.TheVariants.{BadTarget, Unreadable}
use Rattle.merge.specs.declared.NotMerged.{NotMerged}
use Rattle.merge.specs.declared.NotMerged.TheVariants as not_merged
use Rattle.parse.specs.declared.limit.NotAdmitted.{NotAdmitted}
use Rattle.parse.specs.declared.limit.NotAdmitted.TheVariants.{TooLarge, UnknownKind}
use Rattle.parse.specs.declared.limit.TooLarge as large
use Rattle.search.specs.declared.Miss.{Miss}
use Rattle.start.specs.declared.Start.{Start}

-- ---- each answer has one of its numbers

by_part : (l : List ℕ) → AnsweredBy 41 l → AnsweredBy 42 l → AnsweredBy 43 l → AnsweredBy 44 l → AnsweredBy 45 l → (f : Fault) → AnsweredBy (fault_number f) l
by_part l id space end name peeled Id = id
by_part l id space end name peeled Space = space
by_part l id space end name peeled LineEnd = end
by_part l id space end name peeled Name = name
by_part l id space end name peeled Peeled = peeled

header_number_lem : (a : Result (Result Header BadHeader) large.TooLarge) → AnsweredBy (header_number a) (0 ∷ 17 ∷ 2 ∷ [])
header_number_lem (Ok (Ok h)) = refl
header_number_lem (Ok (Err broken)) = refl
header_number_lem (Err too_large) = refl

name_number_lem : (name : List ℕ) → AnsweredBy (name_number name) (0 ∷ 17 ∷ 3 ∷ [])
unfolding name_number
name_number_lem name = go (over_limit (length name)) (valid_name paper name)
  where
    go : (large valid : Bool) → AnsweredBy (if large 17 (if valid 0 3)) (0 ∷ 17 ∷ 3 ∷ [])
    go true valid = refl
    go false true = refl
    go false false = refl

start_number_lem : (a : Result (Result Start BadHeader) NotAdmitted) → AnsweredBy (start_number a) (0 ∷ 1 ∷ 17 ∷ 2 ∷ [])
start_number_lem (Ok (Ok start)) = refl
start_number_lem (Ok (Err broken)) = refl
start_number_lem (Err UnknownKind) = refl
start_number_lem (Err TooLarge) = refl

step_number_lem : (a : Result Step NotAdmitted) → AnsweredBy (step_number a) (0 ∷ 1 ∷ 17 ∷ [])
step_number_lem (Ok r) = refl
step_number_lem (Err UnknownKind) = refl
step_number_lem (Err TooLarge) = refl

check_number_lem : (a : Result (Result ℕ Refusal) NotAdmitted) → AnsweredBy (check_number a) (0 ∷ 1 ∷ 17 ∷ 2 ∷ 6 ∷ bad_record)
check_number_lem (Ok (Ok count)) = refl
check_number_lem (Ok (Err (refusal.BadHeader k))) = refl
check_number_lem (Ok (Err (refusal.BadRecord place f))) = by_part (0 ∷ 1 ∷ 17 ∷ 2 ∷ 6 ∷ bad_record) refl refl refl refl refl f
check_number_lem (Ok (Err (refusal.Unsorted place))) = refl
check_number_lem (Err UnknownKind) = refl
check_number_lem (Err TooLarge) = refl

-- by how the search ends
looked_number : (n : ℕ) (body name : List ℕ) → AnsweredBy (number_of n body name) (0 ∷ 1 ∷ 17 ∷ 3 ∷ 41 ∷ 45 ∷ 4 ∷ 5 ∷ [])
unfolding lookup_of
looked_number n body name = go (valid_name paper name) refl (search_of paper n body name) refl
  where
    by_hit : (k : ℕ) → (k ≡ 0) ⊎ ((k ≡ 41) ⊎ (k ≡ 45)) → AnsweredBy k (0 ∷ 1 ∷ 17 ∷ 3 ∷ 41 ∷ 45 ∷ 4 ∷ 5 ∷ [])
    by_hit k (inl e) = rw e
    by_hit k (inr (inl e)) = rw e
    by_hit k (inr (inr e)) = rw e

    by_miss : (failed : Bool) → number_of n body name ≡ if failed 4 5 → AnsweredBy (number_of n body name) (0 ∷ 1 ∷ 17 ∷ 3 ∷ 41 ∷ 45 ∷ 4 ∷ 5 ∷ [])
    by_miss true e = rw e
    by_miss false e = rw e

    go : (b : Bool) → valid_name paper name ≡ b → (h : Result ℕ Miss) → search_of paper n body name ≡ h
        → AnsweredBy (number_of n body name) (0 ∷ 1 ∷ 17 ∷ 3 ∷ 41 ∷ 45 ∷ 4 ∷ 5 ∷ [])
    go false v h e = rw v
    go true v (Ok place) e = by_hit (number_of n body name) ((hit_or_miss n body name v).hit place e)
    go true v (Err miss) e = by_miss miss.failed ((hit_or_miss n body name v).miss miss.place miss.failed e)

lookup_number_lem : (kind : ℕ) (body name : List ℕ) → AnsweredBy (lookup_number (lookup_answer kind body name)) (0 ∷ 1 ∷ 17 ∷ 3 ∷ 41 ∷ 45 ∷ 4 ∷ 5 ∷ [])
unfolding lookup_answer
lookup_number_lem kind body name = go (admission kind (length body) (length name)) refl
  where
    go : (a : Result ℕ NotAdmitted) → admission kind (length body) (length name) ≡ a
        → AnsweredBy (lookup_number (lookup_answer kind body name)) (0 ∷ 1 ∷ 17 ∷ 3 ∷ 41 ∷ 45 ∷ 4 ∷ 5 ∷ [])
    go (Ok n) e = rw e (looked_number n body name)
    go (Err UnknownKind) e = rw e
    go (Err TooLarge) e = rw e

prefix_start_number_lem : (a : Result (Result ℕ BadStart) NotAdmitted) → AnsweredBy (prefix_start_number a) (0 ∷ 1 ∷ 17 ∷ 2 ∷ [])
prefix_start_number_lem (Ok (Ok place)) = refl
prefix_start_number_lem (Ok (Err broken)) = refl
prefix_start_number_lem (Err UnknownKind) = refl
prefix_start_number_lem (Err TooLarge) = refl

ask_number_lem : (a : Result Told NotAdmitted) → AnsweredBy (ask_number a) (0 ∷ 1 ∷ 17 ∷ 3 ∷ 5 ∷ 2 ∷ 6 ∷ bad_record)
ask_number_lem (Ok (told.Charted place r v)) = refl
ask_number_lem (Ok told.Absent) = refl
ask_number_lem (Ok told.BadName) = refl
ask_number_lem (Ok (told.Refused (refusal.BadHeader k))) = refl
ask_number_lem (Ok (told.Refused (refusal.BadRecord place f))) = by_part (0 ∷ 1 ∷ 17 ∷ 3 ∷ 5 ∷ 2 ∷ 6 ∷ bad_record) refl refl refl refl refl f
ask_number_lem (Ok (told.Refused (refusal.Unsorted place))) = refl
ask_number_lem (Err UnknownKind) = refl
ask_number_lem (Err TooLarge) = refl

-- what stands beside charted is never about the header: it was read
told_fault : (n : ℕ) (file name : List ℕ) (w : Told) → ask_of paper n file name ≡ w → AnsweredBy (ask_fault (Ok w)) (0 ∷ 6 ∷ bad_record)
told_fault n file name (told.Charted place r v) e =
    let (h, inner, opens, here, x, checked) = (trusted n file name).charted place r v e in
    let begins : Says n h.body (items paper n (drop h.body file)) v = subst (Says n h.body (items paper n (drop h.body file))) (sym (read paper n file opens) ∙ checked) (says n h.body (items paper n (drop h.body file))) in
    go h.body (items paper n (drop h.body file)) v begins
  where
    go : (begin : ℕ) (l : List Item) (v : Result ℕ Refusal) → Says n begin l v → AnsweredBy (verdict_number v) (0 ∷ 6 ∷ bad_record)
    go begin l (Ok count) x = refl
    go begin l (Err (refusal.BadHeader text)) x = absurd x
    go begin l (Err (refusal.BadRecord at f)) x = by_part (0 ∷ 6 ∷ bad_record) refl refl refl refl refl f
    go begin l (Err (refusal.Unsorted at)) x = refl
told_fault n file name told.Absent e = refl
told_fault n file name told.BadName e = refl
told_fault n file name (told.Refused why) e = refl

ask_fault_number : (kind : ℕ) (file name : List ℕ) → AnsweredBy (ask_fault (ask_answer kind file name)) (0 ∷ 6 ∷ bad_record)
unfolding ask_answer
ask_fault_number kind file name = go (admission kind (length file) (length name)) refl
  where
    go : (a : Result ℕ NotAdmitted) → admission kind (length file) (length name) ≡ a → AnsweredBy (ask_fault (ask_answer kind file name)) (0 ∷ 6 ∷ bad_record)
    go (Ok n) e = rw e (told_fault n file name (ask_of paper n file name) refl)
    go (Err UnknownKind) e = rw e
    go (Err TooLarge) e = rw e

loose_number_lem : (a : Result (Result Loose LooseFault) NotAdmitted) → AnsweredBy (loose_number a) (0 ∷ 1 ∷ 17 ∷ 15 ∷ 16 ∷ [])
loose_number_lem (Ok (Ok (loose.Id n))) = refl
loose_number_lem (Ok (Ok (loose.Symbolic from len))) = refl
loose_number_lem (Ok (Err Unreadable)) = refl
loose_number_lem (Ok (Err BadTarget)) = refl
loose_number_lem (Err UnknownKind) = refl
loose_number_lem (Err TooLarge) = refl

merge_number_lem : (a : Result ℕ NotMerged) → AnsweredBy (merge_number a) (0 ∷ 1 ∷ 17 ∷ 7 ∷ 8 ∷ 9 ∷ 10 ∷ 11 ∷ 13 ∷ 14 ∷ 12 ∷ 2 ∷ 6 ∷ bad_record)
merge_number_lem (Ok len) = refl
merge_number_lem (Err not_merged.UnknownKind) = refl
merge_number_lem (Err not_merged.TooLarge) = refl
merge_number_lem (Err (not_merged.BadList (fault.BadEdit place edit.Malformed))) = refl
merge_number_lem (Err (not_merged.BadList (fault.BadEdit place edit.BadName))) = refl
merge_number_lem (Err (not_merged.BadList (fault.TooMany place))) = refl
merge_number_lem (Err not_merged.ShortIndex) = refl
merge_number_lem (Err (not_merged.Twins place)) = refl
merge_number_lem (Err (not_merged.Refused (refusal.BadHeader k))) = refl
merge_number_lem (Err (not_merged.Refused (refusal.BadRecord place f))) = by_part (0 ∷ 1 ∷ 17 ∷ 7 ∷ 8 ∷ 9 ∷ 10 ∷ 11 ∷ 13 ∷ 14 ∷ 12 ∷ 2 ∷ 6 ∷ bad_record) refl refl refl refl refl f
merge_number_lem (Err (not_merged.Refused (refusal.Unsorted place))) = refl
merge_number_lem (Err not_merged.NothingToDo) = refl
merge_number_lem (Err not_merged.NoRecord) = refl
merge_number_lem (Err not_merged.ShortOutput) = refl

admission_number_lem : (a : Result ℕ NotAdmitted) → AnsweredBy (admission_number a) (0 ∷ 1 ∷ 17 ∷ [])
admission_number_lem (Ok n) = refl
admission_number_lem (Err UnknownKind) = refl
admission_number_lem (Err TooLarge) = refl

-- a turn speaks of records alone, never of the header
turn_number_lem : (byte : Classes) (n : ℕ) (file : List ℕ) (place : ℕ) (last : List ℕ) → AnsweredBy (turn_number (turn_of byte n file place last)) (0 ∷ 6 ∷ bad_record)
unfolding turn_of
turn_number_lem byte n file place last = go (ltb place (length file)) (record_of byte n (drop place file))
  where
    by_name : (b : Bool) (r : Record) → AnsweredBy (turn_number (if b (Ok (Some r)) (Err (refusal.Unsorted place)))) (0 ∷ 6 ∷ bad_record)
    by_name true r = refl
    by_name false r = refl

    go : (b : Bool) (w : Result Record Fault) → AnsweredBy (turn_number (if b (turn_by n last (drop place file) place w) (Ok None))) (0 ∷ 6 ∷ bad_record)
    go false w = refl
    go true (Ok r) = by_name (smaller last (name_in n (Ok r) (drop place file))) r
    go true (Err f) = by_part (0 ∷ 6 ∷ bad_record) refl refl refl refl refl f

prepared_number_lem : (p : Result ℕ NotPrepared) → AnsweredBy (prepared_number p) (0 ∷ 17 ∷ 7 ∷ 8 ∷ 9 ∷ 10 ∷ 11 ∷ [])
prepared_number_lem (Ok k) = refl
prepared_number_lem (Err (not_prepared.BadList (fault.BadEdit place edit.Malformed))) = refl
prepared_number_lem (Err (not_prepared.BadList (fault.BadEdit place edit.BadName))) = refl
prepared_number_lem (Err (not_prepared.BadList (fault.TooMany place))) = refl
prepared_number_lem (Err not_prepared.ShortIndex) = refl
prepared_number_lem (Err (not_prepared.Twins place)) = refl
prepared_number_lem (Err not_prepared.TooLarge) = refl

-- ---- what a merge leaves

-- only a merge that is done writes
kept_out : (new out : List ℕ) (m : Result ℕ NotMerged) → (merge_number m ≡ 0 → ⊥) → output_by new out m ≡ out
kept_out new out m not_done = rw (ne_eqb (merge_number m) 0 not_done)

-- behind 11 no number is given that stands before it
refusal_late : (why : Refusal) → before_eleven (refusal_number why) ≡ false
refusal_late (refusal.BadHeader k) = refl
refusal_late (refusal.BadRecord place Id) = refl
refusal_late (refusal.BadRecord place Space) = refl
refusal_late (refusal.BadRecord place LineEnd) = refl
refusal_late (refusal.BadRecord place Name) = refl
refusal_late (refusal.BadRecord place Peeled) = refl
refusal_late (refusal.Unsorted place) = refl

finished_late : (olds : List Entry) (edits : List Override) (room : ℕ) → before_eleven (merge_number (finished olds edits room)) ≡ false
unfolding finished
finished_late olds edits room = go (is_idle olds edits) (eqb (length (overridden olds edits)) 0) (ltb room (length (new_file olds edits))) (length (new_file olds edits))
  where
    go : (a b c : Bool) (len : ℕ) → before_eleven (merge_number (if a (Err not_merged.NothingToDo) (if b (Err not_merged.NoRecord) (if c (Err not_merged.ShortOutput) (Ok len))))) ≡ false
    go true b c len = refl
    go false true c len = refl
    go false false true len = refl
    go false false false len = refl

judged_late : (olds : List Entry) (edits : List Override) (room : ℕ) (v : Result ℕ Refusal) → before_eleven (merge_number (judged_by olds edits room v)) ≡ false
judged_late olds edits room (Ok count) = finished_late olds edits room
judged_late olds edits room (Err why) = refusal_late why

module _ (n : ℕ) (old list index : List ℕ) (room : ℕ) where
  abbrev answer : ℕ
  answer = merge_number (merge_of paper n old list (length index) room)

  -- a list that can't be read, or whose index is short, is refused before 11 and leaves the index
  data Index : Type 0 where
    same : before_eleven answer ≡ true → index_after paper n list index ≡ index → Index
    filled : before_eleven answer ≡ false → (places : List ℕ) → edits_of paper n list ≡ all places
        → index_after paper n list index ≡ in_order list places ++ drop (length places) index → Index

  index_is : Index
  unfolding merge_of prepared_of index_after judged twins_of sorted
  index_is = go (over_limit (length list)) refl (edits_of paper n list) refl
    where
      by_twin : (k : ℕ) (t : Option ℕ) → before_eleven (merge_number (merged.listed paper n old list room (twins_by k t))) ≡ false
      by_twin k (Some place) = refl
      by_twin k None = judged_late (old_entries paper n old) (edits_in_order paper n old list) room (check_of paper n old)

      fault_early : (why : ListFault) → before_eleven (list_fault_number why) ≡ true
      fault_early (fault.BadEdit place edit.Malformed) = refl
      fault_early (fault.BadEdit place edit.BadName) = refl
      fault_early (fault.TooMany place) = refl

      go : (b : Bool) → over_limit (length list) ≡ b → (l : Listed) → edits_of paper n list ≡ l → Index
      go true b l e = same (rw b) (rw b)
      go false b (bad why) e = same (rw (b, e) (fault_early why)) (rw (b, e, le-ltb (length index) 0 (omega arith)))
      go false b (all places) e = by_room (ltb (length index) (length places)) refl
        where
          by_room : (c : Bool) → ltb (length index) (length places) ≡ c → Index
          by_room true c = same (rw (b, e, c)) (rw (b, e, c))
          by_room false c =
              filled (rw (b, e, c) (by_twin (length places) (first_twin (standing_name layout.Edit list) (in_order list places)))) places e (rw (b, e, c))

module _ (kind : ℕ) (old list index out : List ℕ) where
  leaves : Leaves kind old list index out
  unfolding merge_answer output_of output_after index_answer
  leaves =
      record {
        untouched = out_by (admission kind (length old) (length list)) refl;
        unchanged = λ e. (index_by (admission kind (length old) (length list)) refl).0 e;
        filled = λ e. (index_by (admission kind (length old) (length list)) refl).1 e;
      }
    where
      out_by : (a : Result ℕ NotAdmitted) → admission kind (length old) (length list) ≡ a
          → (merge_number (merge_answer kind old list (length index) (length out)) ≡ 0 → ⊥) → output_after kind old list (length index) out ≡ out
      out_by (Ok n) e not_done =
          rw e (kept_out (new_file (old_entries paper n old) (edits_in_order paper n old list)) out (merge_of paper n old list (length index) (length out)) (rw e at not_done))
      out_by (Err UnknownKind) e not_done = rw e
      out_by (Err TooLarge) e not_done = rw e

      index_by : (a : Result ℕ NotAdmitted) → admission kind (length old) (length list) ≡ a
          → (before_eleven (merge_number (merge_answer kind old list (length index) (length out))) ≡ true → index_answer kind old list index ≡ index)
          × (before_eleven (merge_number (merge_answer kind old list (length index) (length out))) ≡ false → Filled kind old list index out)
      index_by (Ok n) e = go (index_is n old list index (length out))
        where
          go : Index n old list index (length out)
              → (before_eleven (merge_number (merge_answer kind old list (length index) (length out))) ≡ true → index_answer kind old list index ≡ index)
              × (before_eleven (merge_number (merge_answer kind old list (length index) (length out))) ≡ false → Filled kind old list index out)
          go (same early is) = (λ q. rw e is, λ q. absurd (let z : ◌≡◌ {A = ℕ} 0 1 = cc (rw e at q) in omega arith))
          go (filled late places whole is) =
              (λ q. absurd (let z : ◌≡◌ {A = ℕ} 0 1 = cc (rw e at q) in omega arith), λ q. record { digits = n; kind_is = e; places = places; whole = whole; is = rw e is })
      index_by (Err UnknownKind) e = (λ q. rw e, λ q. absurd (let z : ◌≡◌ {A = ℕ} 0 1 = cc (rw e at q) in omega arith))
      index_by (Err TooLarge) e = (λ q. rw e, λ q. absurd (let z : ◌≡◌ {A = ℕ} 0 1 = cc (rw e at q) in omega arith))

pub demand_1 : Demand1
demand_1 =
    record {
      numbered =
          record {
            header = λ file. header_number_lem (header_answer file);
            name = name_number_lem;
            start = λ kind file. start_number_lem (start_answer kind file);
            step = λ kind bytes place. step_number_lem (plain_answer kind bytes place);
            walk = λ kind bytes place line. step_number_lem (walk_answer kind bytes place line).answer;
            step_prefix = λ kind prefix bytes place. step_number_lem (prefix_answer kind prefix bytes place);
            check = λ kind file. check_number_lem (check_answer kind file);
            lookup = lookup_number_lem;
            prefix_start = λ kind body prefix. prefix_start_number_lem (prefix_start_answer kind body prefix);
            ask = λ kind file name. ask_number_lem (ask_answer kind file name);
            ask_fault_lem = ask_fault_number;
            loose = λ kind content. loose_number_lem (loose_answer kind content);
            merge = λ kind old list indexRoom room. merge_number_lem (merge_answer kind old list indexRoom room);
            admit = λ kind size other. admission_number_lem (admission kind size other);
            turn = turn_number_lem;
            prepare = λ byte n list room. prepared_number_lem (prepared_of byte n list room);
          };
      leaves = leaves;
    }
