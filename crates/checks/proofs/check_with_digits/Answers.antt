-- `checks::check_with_digits` meets its contract.
use native.Mathlib.Omega.{arith}
use Rattle.std.proofs.lemmas.Result.{err_from_is_err_and}
use Rattle.checks.specs.Check.{judge_body, check_of}
use Rattle.checks.proofs.CheckTurns.{before_is}
use Rattle.checks.proofs.check_with_digits.Goals as goal

pub returns-in_err-header : goal.returns-in_err-header
unfolding check_of
returns-in_err-header c =
    let p = err_from_is_err_and c.from_residual.result c.from_residual.ensures.1 in
    rw (p.1, p.2, ← c.open.ensures, c.in_err-header.was)

pub returns : goal.returns
unfolding check_of judge_body
returns c =
    rw (← c.open.ensures, c.in_ok-header.was, judge_body, c.check_from.ensures, before_is 0 c.in_ok-header.header.body (omega arith))
