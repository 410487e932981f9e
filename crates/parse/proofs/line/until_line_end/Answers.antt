-- `parse::line::until_line_end` meets its contract.
use mathlib.Core.Path.{sym, ◌∙◌}
use Rattle.class.specs.Class.{paper}
use Rattle.parse.proofs.Lines.{text_ended, text_unended}
use Rattle.parse.proofs.line.until_line_end.Goals as goal

pub returns-in_err-next : goal.returns-in_err-next
returns-in_err-next c =
    let a = c.args in
    c.from_residual.ensures
    ∙ sym (text_unended paper a.s.now a.at c.text_end-end.result c.text_end-end.ensures (sym c.newline.ensures ∙ c.in_err-next.was))

pub returns : goal.returns
returns c =
    let a = c.args in
    sym (text_ended paper a.s.now a.at c.text_end-end.result c.text_end-end.ensures c.in_ok-next.next (sym c.newline.ensures ∙ c.in_ok-next.was))
