-- `edits::list::fill` meets its contract: the places done stand in the index, and the rest of the list holds those that are left.
use mathlib.Core.Path.{◌≡◌, sym, ap, ◌∙◌}
use Prim.Native.Nat.{◌+◌, ◌≤◌, ◌<◌}
use native.Mathlib.Omega.{arith}
use lib.ListN.{length, drop}
use Rattle.std.proofs.lemmas.List.{set-get_or}
use Rattle.class.specs.Class.{paper}
use Rattle.parse.proofs.Slices.{rest_is}
use Rattle.edit.specs.Edit.{edit_of}
use Rattle.edit.proofs.Parts.{edit_goes_on}
use Rattle.edits.proofs.Filling.{filling_first, filling_stop, filling_full, filling_next}
use Rattle.edits.proofs.list.fill.Goals as goal
use Rattle.std.specs.declared.result.Result.TheVariants.{Ok}

pub loop-entry-init : goal.loop-entry-init
loop-entry-init c = (omega arith, filling_first _ _ _ _ c.requires.1)

pub returns-in_default : goal.returns-in_default
returns-in_default c =
    let is_read = ap (edit_of paper c.args.n) (sym (rest_is c.args.list.now c.loop-entry.place)) ∙ sym c.read.ensures ∙ c.in_default.is in
    set-get_or c.loop-entry.index c.loop-entry.entry-index 0
    ∙ filling_stop paper c.args.n c.args.list.now c.args.index.now c.loop-entry.index c.loop-entry.place c.loop-entry.entry-index c.loop-entry.invariant.1 is_read

pub overflow_cast-entry : goal.overflow_cast-entry
overflow_cast-entry c = omega (arith, c.requires.0)

is_edit : (c : goal.In-Ok) → edit_of paper c.args.n (drop c.loop-entry.place c.args.list.now) ≡ Ok c.in-Ok.size
is_edit c = ap (edit_of paper c.args.n) (sym (rest_is c.args.list.now c.loop-entry.place)) ∙ sym c.read.ensures ∙ c.in-Ok.is

goes_on : (c : goal.In-Ok) → (c.loop-entry.place < c.loop-entry.place + c.in-Ok.size) × (c.loop-entry.place + c.in-Ok.size ≤ length c.args.list.now)
goes_on c = edit_goes_on paper c.args.n c.args.list.now c.loop-entry.place c.in-Ok.size (is_edit c)

pub overflow_add-place : goal.overflow_add-place
overflow_add-place c = omega (arith, goes_on c, c.requires.0)

pub loop-entry-preserved : goal.loop-entry-preserved
loop-entry-preserved c =
    let on = goes_on c in
    let inside : c.loop-entry.place < length c.args.list.now = omega arith in (
      on.1,
      filling_next paper c.args.n c.args.list.now c.args.index.now c.loop-entry.index c.loop-entry.place c.loop-entry.entry-index c.loop-entry.invariant.1 inside c.in-Ok.size (is_edit c) c.requires.2,
    )

pub returns : goal.returns
returns c =
    filling_full paper c.args.n c.args.list.now c.args.index.now c.loop-entry.index c.loop-entry.place c.loop-entry.entry-index c.loop-entry.invariant.1 c.requires.2 (omega arith)
