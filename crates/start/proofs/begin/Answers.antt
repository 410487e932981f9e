-- `start::begin` meets its contract: 1 and 17 first, then the rest.
use mathlib.Core.Path.{sym, ap, ◌∙◌}
use Rattle.std.specs.declared.result.Result.TheVariants.{Ok}
use Rattle.class.specs.Class.{paper}
use Rattle.parse.proofs.Admitted.{refused}
use Rattle.start.specs.Start.{start_of, start_answer}
use Rattle.start.proofs.begin.Goals as goal

pub returns-in_err-admit : goal.returns-in_err-admit
unfolding start_answer
returns-in_err-admit c =
    refused (λ n. Ok (start_of paper c.args.file.now)) _ c.from_residual.result (sym c.admit.ensures ∙ c.in_err-admit.was) c.from_residual.ensures.1

pub returns : goal.returns
unfolding start_answer
returns c = rw (← c.admit.ensures, c.in_ok-admit.was) (ap Ok c.begin_without_kind.ensures)
