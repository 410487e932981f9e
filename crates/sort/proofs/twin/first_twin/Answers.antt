-- `sort::twin::first_twin` meets its contract: the first twin is the first of the entries that are left.
use mathlib.Core.Path.{sym, ap, ◌∙◌}
use Rattle.std.specs.Slice.Iter.{windows_size, windows_rest}
use Rattle.places.specs.Name.{standing_name}
use Rattle.sort.specs.Twin.{first_twin}
use Rattle.sort.proofs.Twins.{twin_in_front, no_pair_left}
use Rattle.sort.proofs.twin.first_twin.Goals as goal

pub returns-then-same_name : goal.returns-then-same_name
returns-then-same_name c =
    let name = standing_name c.args.layout c.args.s.now in
    let items = c.loop-pair.pair-iterator in
    let step = c.in-Some.ensures.steps.1 in
    let here = twin_in_front name (windows_rest items) c.in-Some.pair.now (windows_size items) c.loop-pair.invariant.0 step.0 step.1 in
    sym (rw (sym c.same_name.ensures ∙ c.if-same_name.true) at here) ∙ c.loop-pair.invariant.1

pub loop-pair-preserved : goal.loop-pair-preserved
loop-pair-preserved c =
    let name = standing_name c.args.layout c.args.s.now in
    let items = c.loop-pair.pair-iterator in
    let steps = c.in-Some.ensures.steps in
    let here = twin_in_front name (windows_rest items) c.in-Some.pair.now (windows_size items) c.loop-pair.invariant.0 steps.1.0 steps.1.1 in (
      steps.0 ∙ c.loop-pair.invariant.0,
      ap (first_twin name) steps.1.2 ∙ sym (rw (sym c.same_name.ensures ∙ c.if-same_name.false) at here) ∙ c.loop-pair.invariant.1,
    )

pub returns : goal.returns
returns c =
    let name = standing_name c.args.layout c.args.s.now in
    let items = c.loop-pair.pair-iterator in
    sym (no_pair_left name (windows_rest items) (windows_size items) c.loop-pair.invariant.0 c.in-None.ensures.steps.1.0) ∙ c.loop-pair.invariant.1
