-- `start::begin_without_kind` meets its contract.
use mathlib.Core.Path.{ap}
use Rattle.std.proofs.lemmas.Result.{err_from_is_err_and}
use Rattle.start.specs.Start.{start_of, starts_at}
use Rattle.start.proofs.begin_without_kind.Goals as goal

pub returns-in_err-header : goal.returns-in_err-header
unfolding start_of
returns-in_err-header c =
    let p = err_from_is_err_and c.from_residual.result c.from_residual.ensures.1 in
    rw (p.1, p.2, ← c.open.ensures, c.in_err-header.was)

pub returns : goal.returns
unfolding start_of
returns c = rw (← c.open.ensures, c.in_ok-header.was) (ap (starts_at c.in_ok-header.header.body) c.start_line.ensures)
