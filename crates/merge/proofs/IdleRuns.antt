-- No update and no run that is not empty: exactly if no update, and no delete names an old record.
use mathlib.Core.Path.{◌≡◌, refl, sym, ap, ◌∙◌}
use mathlib.Core.Bool.{false, ◌&&◌}
use mathlib.Core.List.{List, [], ◌∷◌, ◌++◌}
use Prim.Native.Nat.{ℕ, zero, suc, ◌+◌, ◌*◌, ◌≤◌, ◌<◌}
use native.Mathlib.Omega.{arith}
use lib.Dec.{eqb}
use lib.ListN.{get_or, length, drop}
use lib.Seq.{take-nil, drop-nil}
use borrow.Author.Tests.{eq-eqb, ne_eqb}
use Rattle.class.specs.Class.{paper}
use Rattle.compare.specs.Order.{order_of}
use Rattle.compare.proofs.Orders.{is_equal, same_by_order, greater_flip, less_trans}
use Rattle.decode.specs.declared.reference.Record.{Record}
use Rattle.decode.specs.Entry.{Entry, entry_of}
use Rattle.iter.specs.Entries.{entries_of}
use Rattle.iter.specs.Items.{Item, items, name_in, name_of}
use Rattle.checks.specs.Check.{judge_body}
use Rattle.checks.specs.Passes.{IsAscending}
use Rattle.checks.proofs.Passes.{judged}
use Rattle.parts.specs.Parts.{edit_kind, edit_name, edit_id, edit_peeled}
use Rattle.put.specs.Put.{over}
use Rattle.put.proofs.Laws.{over_fits}
use Rattle.merge.specs.Override.{new_of, edits_at}
use Rattle.merge.specs.Merge.{has_name, is_idle}
use Rattle.runs.specs.Runs.{Run, run, at_end, marks_of, is_still}
use Rattle.merge.specs.Splice.{Above, Rising}
use Rattle.merge.proofs.Entries.{Ascends}
use Rattle.merge.proofs.OldSound.{none_smaller, olds_ascend}
use Rattle.merge.proofs.InOrder.{same_greater, lower}
use Rattle.runs.proofs.RunSteps.{runs_less, runs_equal, runs_greater, length_runs}
use Rattle.runs.proofs.RunTurns.{runs_of, length_marks}
use Rattle.std.specs.declared.cmp.Ordering.{Ordering}
use Rattle.std.specs.declared.cmp.Ordering.TheVariants.{Equal, Greater, Less}
use Rattle.std.specs.declared.result.Result.{Result}
use Rattle.std.specs.declared.result.Result.TheVariants.{Err, Ok}
use Rattle.decode.specs.declared.reference.Fault.{Fault}

-- ---- names

none_has : (name : List ℕ) (l : List Entry) → Ascends name l → has_name name l ≡ false
none_has name [] u = refl
none_has name (r ∷ l) u = rw (same_greater name r.name u.0) (none_has name l (lower name r.name l u.0 u.1))

-- an item with a name has bytes, and one whose name is greater than another has a name
named_some : (n : ℕ) (last : List ℕ) (i : Item) → order_of last (name_of n i) ≡ Less → 0 < length i.bytes
named_some n last i h = go i.what i.bytes h
  where
    go : (w : Result Record Fault) (s : List ℕ) → order_of last (name_in n w s) ≡ Less → 0 < length s
    go w (b ∷ s) h = omega arith
    go (Ok r) [] h = absurd (none_smaller last (rw (drop-nil (n + 1), take-nil r.name_len) at h))
    go (Err f) [] h = absurd (none_smaller last h)

module _ (list : List ℕ) where
  lower_above : (low last ps : List ℕ) → order_of low last ≡ Less → Above list last ps → Above list low ps
  lower_above low last [] h a = tt
  lower_above low last (p ∷ ps) h a = (less_trans low last (edit_name list p) h a.0, lower_above low last ps h a.1)

  -- ---- marks that stand behind do not matter

  still_front : (ps : List ℕ) (rs : List Run) (more : List ℕ) → length rs ≡ length ps
      → is_still list ps (marks_of rs ++ more) ≡ is_still list ps (marks_of rs)
  still_front [] rs more h = refl
  still_front (p ∷ ps) [] more h = absurd (omega arith)
  still_front (p ∷ ps) (run from to ∷ rs) more h =
      ap (λ t. eqb (get_or list p 0) 0 && (eqb from to && t)) (still_front ps rs more (omega arith))

  module _ (n : ℕ) where
    -- an edit that puts nothing there is a delete
    none_new : (kind : ℕ) (name id peeled : List ℕ) → eqb (length (new_of kind name id peeled)) 0 ≡ eqb kind 0
    none_new zero name id peeled = refl
    none_new (suc zero) name id peeled = refl
    none_new (suc (suc kind)) name id peeled = sym (ne_eqb (suc (suc kind)) 0 (λ z. omega arith))

    -- a record that no edit names does not matter
    idle_past : (r : Entry) (rs : List Entry) (ps : List ℕ) → Above list r.name ps
        → is_idle (r ∷ rs) (edits_at n list ps) ≡ is_idle rs (edits_at n list ps)
    idle_past r rs [] a = refl
    idle_past r rs (p ∷ ps) a = rw (same_by_order r.name (edit_name list p) ∙ ap is_equal a.0, idle_past r rs ps a.1)

    -- behind all records
    still_at_end : (place : ℕ) (ps : List ℕ) → is_still list ps (marks_of (at_end place ps)) ≡ is_idle [] (edits_at n list ps)
    still_at_end place [] = refl
    still_at_end place (p ∷ ps) = rw (none_new (get_or list p 0), eq-eqb place place refl, still_at_end place ps)

    -- ---- one step

    abbrev Agree : ℕ → List Item → List ℕ → Type 0
    Agree place l ps = is_still list ps (marks_of (runs_of n list place l ps)) ≡ is_idle (entries_of n l) (edits_at n list ps)

    -- the first item is a record
    module _ (place : ℕ) (r : Record) (bytes : List ℕ) (l : List Item) (p : ℕ) (ps : List ℕ) where
      abbrev i : Item
      i = record { what = Ok r; bytes = bytes }

      -- the edit belongs further behind, and so do all that follow it
      still_less : order_of (name_of n i) (edit_name list p) ≡ Less → Above list (edit_name list p) ps
          → Agree (place + length i.bytes) l (p ∷ ps) → Agree place (i ∷ l) (p ∷ ps)
      still_less e a rest =
          ap (λ rs. is_still list (p ∷ ps) (marks_of rs)) (runs_less n list place i l p ps e)
          ∙ rest
          ∙ sym (idle_past (entry_of n bytes r) (entries_of n l) (p ∷ ps) (e, lower_above (name_of n i) (edit_name list p) ps e a))

      -- it replaces the first record, which has bytes: the run is not empty, and the record has the name
      still_equal : order_of (name_of n i) (edit_name list p) ≡ Equal → 0 < length i.bytes → Agree place (i ∷ l) (p ∷ ps)
      still_equal e h =
          ap (λ rs. is_still list (p ∷ ps) (marks_of rs)) (runs_equal n list place i l p ps e)
          ∙ rw (ne_eqb place (place + length i.bytes) (λ z. omega arith), same_by_order (name_of n i) (edit_name list p) ∙ ap is_equal e, none_new (get_or list p 0))

      -- it belongs in front of the first record: the run is empty, and no record has the name
      still_greater : order_of (name_of n i) (edit_name list p) ≡ Greater → IsAscending n (name_of n i) l
          → Agree place (i ∷ l) ps → Agree place (i ∷ l) (p ∷ ps)
      still_greater e u rest =
          let above : Ascends (edit_name list p) (entries_of n (i ∷ l)) =
          (greater_flip (name_of n i) (edit_name list p) e, olds_ascend n (name_of n i) l u)
          in
          ap (λ rs. is_still list (p ∷ ps) (marks_of rs)) (runs_greater n list place i l p ps e)
          ∙ rw (
            eq-eqb place place refl,
            rest,
            none_new (edit_kind list p) (edit_name list p) (edit_id n list p) (edit_peeled n list p),
            none_has (edit_name list p) (entries_of n (i ∷ l)) above,
          )

    -- ---- all

    pub still_is_idle : (place : ℕ) (last : List ℕ) (l : List Item) (ps : List ℕ) → IsAscending n last l → Rising list ps
        → is_still list ps (marks_of (runs_of n list place l ps)) ≡ is_idle (entries_of n l) (edits_at n list ps)
    still_is_idle place last [] ps u v = still_at_end place ps
    still_is_idle place last (i ∷ l) [] u v = refl
    still_is_idle place last (i ∷ l) (p ∷ ps) u v =
        first i.what u
        (still_is_idle (place + length i.bytes) (name_of n i) l (p ∷ ps) u.1 v)
        (still_is_idle place last (i ∷ l) ps u v.1)
      where
        read_as : Result Record Fault → List Item
        read_as w = record { what = w; bytes = i.bytes } ∷ l

        go : (r : Record) → IsAscending n last (read_as (Ok r)) → (o : Ordering) → order_of (name_in n (Ok r) i.bytes) (edit_name list p) ≡ o
            → Agree (place + length i.bytes) l (p ∷ ps) → Agree place (read_as (Ok r)) ps → Agree place (read_as (Ok r)) (p ∷ ps)
        go r u Less e behind here = still_less place r i.bytes l p ps e v.0 behind
        go r u Equal e behind here = still_equal place r i.bytes l p ps e (named_some n last (record { what = Ok r; bytes = i.bytes }) u.0)
        go r u Greater e behind here = still_greater place r i.bytes l p ps e u.1 here

        first : (w : Result Record Fault) → IsAscending n last (read_as w) → Agree (place + length i.bytes) l (p ∷ ps) → Agree place (read_as w) ps
            → Agree place (read_as w) (p ∷ ps)
        first (Ok r) u = go r u (order_of (name_in n (Ok r) i.bytes) (edit_name list p)) refl
        first (Err f) u = absurd (none_smaller last u.0)

pub idle_is_still : (n : ℕ) (file list : List ℕ) (body count : ℕ) (ps marks₀ marks : List ℕ)
    → judge_body paper n file body ≡ Ok count → Rising list ps → 2 * length ps ≤ length marks₀
    → marks ≡ over marks₀ 0 (marks_of (runs_of n list body (items paper n (drop body file)) ps))
    → is_still list ps marks ≡ is_idle (entries_of n (items paper n (drop body file))) (edits_at n list ps)
unfolding judge_body
idle_is_still n file list body count ps marks₀ marks clean rising room m =
    let l = items paper n (drop body file) in
    let rs = runs_of n list body l ps in
    ap (is_still list ps) (m ∙ over_fits marks₀ (marks_of rs) (omega (arith, length_marks rs, length_runs n list body l ps)))
    ∙ still_front list ps rs (drop (length (marks_of rs)) marks₀) (length_runs n list body l ps)
    ∙ still_is_idle list n body [] l ps (judged n body l clean).up rising
