-- `checks::check` meets its contract: 1 and 17 first, then the rest.
use mathlib.Core.Path.{sym, ◌∙◌}
use Rattle.std.specs.declared.result.Result.TheVariants.{Ok}
use Rattle.class.specs.Class.{paper}
use Rattle.parse.proofs.Admitted.{refused}
use Rattle.checks.specs.Check.{check_of, check_answer}
use Rattle.checks.proofs.check.Goals as goal

pub returns-in_err-n : goal.returns-in_err-n
unfolding check_answer
returns-in_err-n c =
    refused (λ n. Ok (check_of paper n c.args.file.now)) _ c.from_residual.result (sym c.admit.ensures ∙ c.in_err-n.was) c.from_residual.ensures.1

pub returns : goal.returns
unfolding check_answer
returns c = rw (← c.admit.ensures, c.in_ok-n.was, c.check_with_digits.ensures)
