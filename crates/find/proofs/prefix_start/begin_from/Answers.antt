-- `find::prefix_start::begin_from` meets its contract.
use mathlib.Core.Path.{sym, ap, ◌∙◌}
use native.Mathlib.Omega.{arith}
use lib.ListN.{drop, length-drop}
use Rattle.class.specs.Class.{paper}
use Rattle.parse.proofs.Slices.{rest_is}
use Rattle.start.specs.Start.{start_of}
use Rattle.start.proofs.Begins.{start_inside}
use Rattle.find.specs.PrefixStart.{prefix_start_from}
use Rattle.find.proofs.prefix_start.begin_from.Goals as goal

pub overflow_add-result : goal.overflow_add-result
overflow_add-result c =
    let a = c.args in
    let here = ap (start_of paper) (sym (c.between.ensures ∙ rest_is a.body.now a.place)) ∙ sym c.begin_without_kind.ensures ∙ c.in-Ok.is in
    omega (arith, start_inside paper (drop a.place a.body.now) here, length-drop a.place a.body.now, c.well_formed, c.requires)

pub returns-in-Ok : goal.returns-in-Ok
unfolding prefix_start_from
returns-in-Ok c = rw (← rest_is c.args.body.now c.args.place, ← c.between.ensures, ← c.begin_without_kind.ensures, c.in-Ok.is)

pub returns-in-Err : goal.returns-in-Err
unfolding prefix_start_from
returns-in-Err c = rw (← rest_is c.args.body.now c.args.place, ← c.between.ensures, ← c.begin_without_kind.ensures, c.in-Err.is)
