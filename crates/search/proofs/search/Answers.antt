-- `search::search` meets its contract: what is left to halve decides the whole.
use mathlib.Core.Path.{sym, ap, ◌∙◌}
use Rattle.class.specs.Class.{paper}
use Rattle.search.specs.declared.Probed.{Probed}
use Rattle.search.specs.Search.{placed, search_of, missed}
use Rattle.search.proofs.Halving.{at_first, ended, found_it, to_right, to_left}
use Rattle.search.proofs.Probes.{probed_there}
use Rattle.search.proofs.search.Goals as goal
use Rattle.std.specs.declared.result.Result.TheVariants.{Ok}

pub loop-high-init : goal.loop-high-init
loop-high-init c = at_first _ _ _

pub loop-high-preserved-in-Less : goal.loop-high-preserved-in-Less
loop-high-preserved-in-Less c =
    let said = probed_there c.args.n c.args.s.now c.args.wanted.now _ c.start_of-start.ensures c.between.ensures c.probe-probed.ensures in
    rw (ap (λ (x : Probed). x.failed) said) (to_right _ _ c.loop-high.invariant c.if-high-low.false (ap (λ (x : Probed). x.order) (sym said) ∙ c.in-Less.is))

pub loop-high-preserved : goal.loop-high-preserved
loop-high-preserved c =
    let said = probed_there c.args.n c.args.s.now c.args.wanted.now _ c.start_of-start.ensures c.between.ensures c.probe-probed.ensures in
    rw (ap (λ (x : Probed). x.failed) said) (to_left _ _ c.loop-high.invariant c.if-high-low.false (ap (λ (x : Probed). x.order) (sym said) ∙ c.in-Greater.is))

pub returns-in-Equal : goal.returns-in-Equal
unfolding search_of
returns-in-Equal c =
    let a = c.args in
    let said = probed_there a.n a.s.now a.wanted.now _ c.start_of-start.ensures c.between.ensures c.probe-probed.ensures in
    let hit = found_it _ _ c.loop-high.invariant c.if-high-low.false (ap (λ (x : Probed). x.order) (sym said) ∙ c.in-Equal.is) in
    ap Ok c.start_of-start.ensures ∙ sym (ap (placed paper a.n a.s.now a.wanted.now) hit)

pub returns-then-high-low : goal.returns-then-high-low
unfolding search_of
returns-then-high-low c =
    let a = c.args in
    ap (λ p. missed p c.loop-high.failed) c.record_start.ensures ∙ sym (ap (placed paper a.n a.s.now a.wanted.now) (ended _ _ c.loop-high.invariant c.if-high-low.true))
