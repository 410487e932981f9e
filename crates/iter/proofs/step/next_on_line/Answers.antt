-- `iter::step::next_on_line` meets its contract: 1 and 17 first, then the rest.
use mathlib.Core.Path.{sym, ◌∙◌}
use Rattle.std.specs.declared.result.Result.TheVariants.{Ok}
use Rattle.class.specs.Class.{paper}
use Rattle.parse.proofs.Admitted.{refused}
use Rattle.iter.specs.Step.{step_of, step_answer}
use Rattle.iter.proofs.step.next_on_line.Goals as goal

pub returns-in_err-n : goal.returns-in_err-n
unfolding step_answer
returns-in_err-n c =
    let a = c.args in
    refused (λ n. Ok (step_of paper n a.prefix.now a.s.now a.place a.line)) _ c.from_residual.result (sym c.admit.ensures ∙ c.in_err-n.was) c.from_residual.ensures.1

pub returns : goal.returns
unfolding step_answer
returns c = rw (← c.admit.ensures, c.in_ok-n.was, c.next_with_digits.ensures)
