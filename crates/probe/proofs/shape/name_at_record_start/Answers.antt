-- `probe::shape::name_at_record_start` meets its contract.
use mathlib.Core.Path.{sym, ◌∙◌}
use borrow.Author.Tests.{lt-ltb, le-ltb}
use Rattle.probe.specs.Shape.{shape_of}
use Rattle.probe.proofs.shape.name_at_record_start.Goals as goal

pub returns-in_err-from : goal.returns-in_err-from
unfolding shape_of
returns-in_err-from c = rw (sym c.past_byte.ensures ∙ c.in_err-from.was) c.from_residual.ensures

pub returns-in_err-end : goal.returns-in_err-end
unfolding shape_of
returns-in_err-end c =
    let space = sym c.past_byte.ensures ∙ c.in_ok-from.was in
    rw (space, sym c.until_line_end.ensures ∙ c.in_err-end.was) c.from_residual-in_err-end.ensures

pub returns-then-end-from : goal.returns-then-end-from
unfolding shape_of
returns-then-end-from c =
    let space = sym c.past_byte.ensures ∙ c.in_ok-from.was in
    rw (space, sym c.until_line_end.ensures ∙ c.in_ok-end.was, le-ltb _ _ c.if-end-from.true)

pub returns : goal.returns
unfolding shape_of
returns c =
    let space = sym c.past_byte.ensures ∙ c.in_ok-from.was in
    rw (space, sym c.until_line_end.ensures ∙ c.in_ok-end.was, lt-ltb _ _ c.if-end-from.false)
