-- `iter::step::next_with_digits` meets its contract.
use mathlib.Core.Path.{refl, sym, ◌∙◌}
use native.Mathlib.Omega.{arith}
use borrow.Author.Rules.{rules}
use lib.ListN.{drop, length-drop}
use Rattle.class.specs.Class.{paper}
use Rattle.line_number.proofs.Feeds.{until_le, line_behind_lem}
use Rattle.iter.proofs.ItemRead.{reads, told, goes_on, named_is}
use Rattle.iter.proofs.Steps.{step_end, step_other, step_good, step_error, error_alike}
use Rattle.iter.proofs.step.next_with_digits.Goals as goal

pub returns-then-s-place : goal.returns-then-s-place
returns-then-s-place c =
    let a = c.args in
    sym (step_end paper a.n a.prefix.now a.s.now a.place a.line c.if-s-place.true)

pub returns-then-not-begins_with : goal.returns-then-not-begins_with
returns-then-not-begins_with c =
    let a = c.args in
    let r = told (reads (search rules) c.reference.ensures) c.in-Ok.is in
    sym (step_other paper a.n a.prefix.now a.s.now a.place a.line r.inside c.in-Ok.found r.is (rw (← named_is r c.name_of-name.ensures, ← c.begins_with.ensures, c.if-not-begins_with.true)))

pub overflow_add-result : goal.overflow_add-result
overflow_add-result c =
    let r = told {file = c.args.s.now} {place = c.args.place} (reads (search rules) c.reference.ensures) c.in-Ok.is in
    omega (arith, goes_on r, c.well_formed)

pub returns-else-not-begins_with : goal.returns-else-not-begins_with
returns-else-not-begins_with c =
    let a = c.args in
    let r = told (reads (search rules) c.reference.ensures) c.in-Ok.is in
    sym (step_good paper a.n a.prefix.now a.s.now a.place a.line r.inside c.in-Ok.found r.is (rw (← named_is r c.name_of-name.ensures, ← c.begins_with.ensures, c.if-not-begins_with.false)))

pub overflow_add-place : goal.overflow_add-place
overflow_add-place c =
    omega (arith, c.text_len-text.ensures, until_le (drop c.args.place c.args.s.now), length-drop c.args.place c.args.s.now, c.well_formed)

pub returns-in-Err : goal.returns-in-Err
returns-in-Err c =
    let a = c.args in
    let bad = told {file = a.s.now} {place = a.place} (reads (search rules) c.reference.ensures) c.in-Err.is in
    error_alike refl c.text_len-text.ensures
    (c.behind.ensures ∙ rw c.text_len-text.ensures (line_behind_lem a.s.now a.place (omega (arith, bad.inside))))
    ∙ sym (step_error paper a.n a.prefix.now a.s.now a.place a.line bad.inside c.in-Err.fault bad.is)
