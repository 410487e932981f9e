-- `merge::merge_with_digits` meets its contract: by what is found of the edit list; once it is ready, the front of the index is the edits in name order.
use mathlib.Core.Path.{◌≡◌, sym, ap, ◌∙◌}
use mathlib.Core.List.{List}
use Prim.Native.Nat.{ℕ, ◌-◌, ◌≤◌}
use native.Mathlib.Nat.{sub-zero}
use native.Mathlib.Omega.{arith}
use lib.ListN.{length, take}
use Rattle.class.specs.Class.{paper}
use Rattle.edits.specs.List.{edits_of, places_of, prepared_of, index_after}
use Rattle.merge.specs.Override.{edits_at}
use Rattle.merge.specs.Merge.{new_file, output_by, old_entries, judged, edits_in_order, listed, merge_of, output_of}
use Rattle.merge.specs.Splice.{Rising}
use Rattle.merge.proofs.Answers.{list_leaves}
use Rattle.merge.proofs.EditsRise.{in_order_rising}
use Rattle.merge.proofs.Ready.{places, ready, front_is}
use Rattle.merge.proofs.merge_with_digits.Goals as goal
use Rattle.std.specs.declared.result.Result.{Result}
use Rattle.std.specs.declared.result.Result.TheVariants.{Err, Ok}
use Rattle.std.proofs.lemmas.Result.{err_from_is_err_and}
use Rattle.edits.specs.declared.list.NotPrepared.{NotPrepared}

-- the edit list was read
module _ (n : ℕ) (old list index out : List ℕ) where
  abbrev new : List ℕ
  new = new_file (old_entries paper n old) (edits_in_order paper n old list)

  module _ (q : Result ℕ NotPrepared) (e : prepared_of paper n list (length index) ≡ q) where
    merge_is : merge_of paper n old list (length index) (length out) ≡ listed paper n old list (length out) q
    unfolding merge_of
    merge_is = ap (listed paper n old list (length out)) e

    output_is : output_of paper n old list (length index) out ≡ output_by new out (listed paper n old list (length out) q)
    unfolding output_of
    output_is = ap (output_by new out) merge_is

-- it is ready
module _ (n : ℕ) (old list index after : List ℕ) (k : ℕ) (e : prepared_of paper n list (length index) ≡ Ok k) (i : after ≡ index_after paper n list index) where
  abbrev sorted : List ℕ
  sorted = places paper n list index k e

  -- the part of the index that is lent
  part : take (k - 0) after ≡ sorted
  part = ap (λ j. take j after) (sub-zero k) ∙ ap (take k) i ∙ front_is paper n list index k e

  few : length (take (k - 0) after) ≤ 4096
  few = let is = ready paper n list index k e in omega (arith, ap length part, is.in_order_lem, is.few)

  rising : Rising list (take (k - 0) after)
  rising = rw part (in_order_rising list (places_of (edits_of paper n list)) (ready paper n list index k e).no_twin)

  edits_are : edits_at n list (take (k - 0) after) ≡ edits_in_order paper n old list
  unfolding edits_in_order
  edits_are = ap (edits_at n list) part

pub slice_bounds-with_edits-end : goal.slice_bounds-with_edits-end
slice_bounds-with_edits-end c =
    let a = c.args in
    let e = sym c.prepare.ensures.value ∙ c.in_ok-k.was in
    omega (arith, (ready paper a.n a.list.now a.index.now c.in_ok-k.k e).room_enough)

pub with_edits-requires : goal.with_edits-requires
with_edits-requires c =
    let a = c.args in
    let e = sym c.prepare.ensures.value ∙ c.in_ok-k.was in
    let i = c.prepare.ensures.index_after in
    (few a.n a.old.now a.list.now a.index.now _ c.in_ok-k.k e i, rising a.n a.old.now a.list.now a.index.now _ c.in_ok-k.k e i)

pub returns : goal.returns
returns c =
    let a = c.args in
    let e = sym c.prepare.ensures.value ∙ c.in_ok-k.was in
    let edits = edits_are a.n a.old.now a.list.now a.index.now _ c.in_ok-k.k e c.prepare.ensures.index_after in
    let answer = c.with_edits.ensures.value ∙ ap (λ x. judged paper a.n a.old.now x (length a.out.now)) edits in
    record {
      value = answer ∙ sym (merge_is a.n a.old.now a.list.now a.index.now a.out.now _ e);
      index_after = c.prepare.ensures.index_after;
      out_after =
          c.with_edits.ensures.out_after
          ∙ (λ i. output_by (new_file (old_entries paper a.n a.old.now) (edits i)) a.out.now (answer i))
          ∙ sym (output_is a.n a.old.now a.list.now a.index.now a.out.now _ e);
    }

pub returns-in_err-k : goal.returns-in_err-k
returns-in_err-k c =
    let a = c.args in
    let e = sym c.prepare.ensures.value ∙ c.in_err-k.was in
    let (why, answer, reason) = err_from_is_err_and c.from_residual.result c.from_residual.ensures.1 in
    record {
      value = answer ∙ ap Err reason ∙ sym (merge_is a.n a.old.now a.list.now a.index.now a.out.now _ e);
      index_after = c.prepare.ensures.index_after;
      out_after = sym (output_is a.n a.old.now a.list.now a.index.now a.out.now _ e ∙ list_leaves _ a.out.now c.in_err-k.field-0.0);
    }
