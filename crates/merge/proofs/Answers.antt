-- What comes of the new file, test by test, and what a refusal that is handed on leaves as it was.
use mathlib.Core.Path.{◌≡◌, refl, ap, ◌∙◌}
use mathlib.Core.Bool.{Bool, true, false}
use mathlib.Core.List.{List}
use Prim.Native.Nat.{ℕ, ◌≤◌, ◌<◌}
use lib.ListN.{length}
use borrow.Author.Tests.{eq-eqb, ne_eqb, lt-ltb, le-ltb}
use Rattle.decode.specs.declared.reference.Fault.TheVariants.{Id, Space, LineEnd, Name, Peeled}
use Rattle.checks.specs.declared.Refusal.{Refusal}
use Rattle.checks.specs.declared.Refusal.TheVariants.{BadHeader, BadRecord, Unsorted}
use Rattle.edit.specs.declared.EditFault.TheVariants.{Malformed, BadName}
use Rattle.edits.specs.declared.list.ListFault.{ListFault}
use Rattle.edits.specs.declared.list.ListFault.TheVariants.{BadEdit, TooMany}
use Rattle.edits.specs.declared.list.NotPrepared.{NotPrepared}
use Rattle.edits.specs.declared.list.NotPrepared.TheVariants as list
use Rattle.parse.specs.declared.limit.NotAdmitted.{NotAdmitted}
use Rattle.parse.specs.declared.limit.NotAdmitted.TheVariants as admission-is
use Rattle.parse.specs.Limit.{admit}
use Rattle.merge.specs.Merge.{output_by, not_admitted, not_prepared}
use Rattle.merge.specs.declared.NotMerged.{NotMerged}
use Rattle.merge.specs.Splice.{spliced_answer}
use Rattle.std.specs.declared.result.Result.{Result}
use Rattle.std.specs.declared.result.Result.TheVariants.{Err, Ok}
use Rattle.merge.specs.declared.NotMerged.TheVariants.{BadList, NoRecord, NothingToDo, Refused, ShortOutput, TooLarge, UnknownKind}

module _ (header : List ℕ) (still : Bool) (new : List ℕ) (room : ℕ) where
  pub nothing_to_do : still ≡ true → spliced_answer header still new room ≡ Err NothingToDo
  unfolding spliced_answer
  nothing_to_do e = rw e

  module _ (moves : still ≡ false) where
    pub no_record : length new ≡ length header → spliced_answer header still new room ≡ Err NoRecord
    unfolding spliced_answer
    no_record e = rw (moves, eq-eqb (length new) (length header) e)

    module _ (some : length new ≡ length header → ⊥) where
      pub short_output : room < length new → spliced_answer header still new room ≡ Err ShortOutput
      unfolding spliced_answer
      short_output h = rw (moves, ne_eqb (length new) (length header) some, lt-ltb room (length new) h)

      pub all_done : length new ≤ room → spliced_answer header still new room ≡ Ok (length new)
      unfolding spliced_answer
      all_done h = rw (moves, ne_eqb (length new) (length header) some, le-ltb room (length new) h)

-- a call that is not admitted is answered with the reason, and what was lent stays
module _ {a : Result ℕ NotAdmitted} {why : NotAdmitted} (e : a ≡ Err why) where
  pub call_refused : (f : ℕ → Result ℕ NotMerged) → admit a f (Err UnknownKind) (Err TooLarge) ≡ Err (not_admitted why)
  call_refused f = ap (λ w. admit w f (Err UnknownKind) (Err TooLarge)) e ∙ go why
    where
      go : (w : NotAdmitted) → admit (Err w) f (Err UnknownKind) (Err TooLarge) ≡ Err (not_admitted w)
      go admission-is.UnknownKind = refl
      go admission-is.TooLarge = refl

  pub call_leaves : (f : ℕ → List ℕ) (lent : List ℕ) → admit a f lent lent ≡ lent
  call_leaves f lent = ap (λ w. admit w f lent lent) e ∙ go why
    where
      go : (w : NotAdmitted) → admit (Err w) f lent lent ≡ lent
      go admission-is.UnknownKind = refl
      go admission-is.TooLarge = refl

module _ (new out : List ℕ) where
  list_refused : (why : ListFault) → output_by new out (Err (BadList why)) ≡ out
  list_refused (BadEdit place Malformed) = refl
  list_refused (BadEdit place BadName) = refl
  list_refused (TooMany place) = refl

  pub list_leaves : (why : NotPrepared) → output_by new out (Err (not_prepared why)) ≡ out
  list_leaves (list.BadList why) = list_refused why
  list_leaves list.ShortIndex = refl
  list_leaves (list.Twins place) = refl
  list_leaves list.TooLarge = refl

  pub old_refused : (why : Refusal) → output_by new out (Err (Refused why)) ≡ out
  old_refused (BadHeader text) = refl
  old_refused (BadRecord place Id) = refl
  old_refused (BadRecord place Space) = refl
  old_refused (BadRecord place LineEnd) = refl
  old_refused (BadRecord place Name) = refl
  old_refused (BadRecord place Peeled) = refl
  old_refused (Unsorted place) = refl
