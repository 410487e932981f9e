-- `checks::check_from` meets its contract: the items from the place reached on, judged after those before, decide the whole.
use mathlib.Core.Path.{sym, ◌∙◌}
use native.Mathlib.Numerals.{add-one}
use native.Mathlib.Omega.{arith}
use Rattle.std.specs.declared.option.Option.TheVariants.{None, Some}
use Rattle.std.specs.declared.result.Result.TheVariants.{Err, Ok}
use Rattle.iter.proofs.ItemRead.{goes_on, named_is}
use Rattle.checks.proofs.CheckTurns.{spot, turned, judged, count_least}
use Rattle.checks.proofs.check_from.Goals as goal

pub loop-found-init : goal.loop-found-init
loop-found-init c =
    let a = c.args in
    let cut = c.min-count.ensures ∙ count_least a.passed a.from in
    (omega (arith, c.min-count.ensures), rw cut)

pub returns-in-Ok-None : goal.returns-in-Ok-None
returns-in-Ok-None c =
    let a = c.args in
    let l = c.loop-found in
    let s = spot a.n a.file.now l.place l.last.now in
    sym (judged s l.count (Ok None) (turned s _ (Ok None) c.take_turn.ensures (cc))) ∙ l.invariant.1

pub returns-in-Err : goal.returns-in-Err
returns-in-Err c =
    let a = c.args in
    let l = c.loop-found in
    let s = spot a.n a.file.now l.place l.last.now in
    c.refused.ensures ∙ sym (judged s l.count (Err c.in-Err.why) (turned s _ (Err c.in-Err.why) c.take_turn.ensures c.in-Err.is)) ∙ l.invariant.1

pub slice_bounds-name_of-count : goal.slice_bounds-name_of-count
slice_bounds-name_of-count c =
    let a = c.args in
    let l = c.loop-found in
    let on = turned (spot a.n a.file.now l.place l.last.now) _ (Ok (Some c.in-Ok-Some.found)) c.take_turn.ensures (cc) in
    omega (arith, on.0.inside)

pub slice_bounds-name_of-start : goal.slice_bounds-name_of-start
slice_bounds-name_of-start c =
    let a = c.args in
    let l = c.loop-found in
    let on = turned (spot a.n a.file.now l.place l.last.now) _ (Ok (Some c.in-Ok-Some.found)) c.take_turn.ensures (cc) in
    omega (arith, on.0.inside)

pub overflow_add-count : goal.overflow_add-count
overflow_add-count c =
    let a = c.args in
    let l = c.loop-found in
    let on = turned (spot a.n a.file.now l.place l.last.now) _ (Ok (Some c.in-Ok-Some.found)) c.take_turn.ensures (cc) in
    omega (arith, goes_on on.0, l.invariant.0, c.well_formed)

pub overflow_add-place : goal.overflow_add-place
overflow_add-place c =
    let a = c.args in
    let l = c.loop-found in
    let on = turned (spot a.n a.file.now l.place l.last.now) _ (Ok (Some c.in-Ok-Some.found)) c.take_turn.ensures (cc) in
    omega (arith, goes_on on.0, c.well_formed)

pub loop-found-smaller : goal.loop-found-smaller
loop-found-smaller c =
    let a = c.args in
    let l = c.loop-found in
    let on = turned (spot a.n a.file.now l.place l.last.now) _ (Ok (Some c.in-Ok-Some.found)) c.take_turn.ensures (cc) in
    omega (arith, goes_on on.0)

pub loop-found-preserved : goal.loop-found-preserved
loop-found-preserved c =
    let a = c.args in
    let l = c.loop-found in
    let s = spot a.n a.file.now l.place l.last.now in
    let on = turned s _ (Ok (Some c.in-Ok-Some.found)) c.take_turn.ensures (cc) in (
      omega (arith, goes_on on.0, l.invariant.0),
      rw (add-one, named_is on.0 c.name_of-last.ensures) (sym (judged s l.count (Ok (Some c.in-Ok-Some.found)) on) ∙ l.invariant.1),
    )
