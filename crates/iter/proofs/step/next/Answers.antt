-- `iter::step::next` meets its contract: the step on the line that is counted, which is told with an error alone.
use mathlib.Core.Path.{refl, sym, ap, ◌∙◌}
use Rattle.std.specs.declared.result.Result.TheVariants.{Ok}
use Rattle.std.proofs.lemmas.Result.{err_from_is_err_and}
use Rattle.line_number.specs.LineNumber.{line_told}
use Rattle.iter.proofs.Steps.{error_alike}
use Rattle.iter.proofs.OnLine.{no_line, plain_from}
use Rattle.iter.proofs.step.next.Goals as goal

pub returns-in_err-step : goal.returns-in_err-step
returns-in_err-step c =
    let a = c.args in
    let p = err_from_is_err_and c.from_residual.result c.from_residual.ensures.1 in
    rw (p.1, p.2) (plain_from a.kind a.s.now a.place 0 (sym c.in_err-step.was ∙ c.next_on_line.ensures))

pub returns-in-Error : goal.returns-in-Error
returns-in-Error c =
    let a = c.args in
    ap Ok (error_alike c.line_number.ensures refl refl)
    ∙ plain_from a.kind a.s.now a.place 0 (sym (c.in_ok-step.was ∙ ap Ok c.in-Error.is) ∙ c.next_on_line.ensures)

pub returns-in_default : goal.returns-in_default
returns-in_default c =
    let a = c.args in
    sym (no_line (line_told a.s.now a.place) c.in_ok-step.step c.in_default.not-Error)
    ∙ plain_from a.kind a.s.now a.place 0 (sym c.in_ok-step.was ∙ c.next_on_line.ensures)
