-- `probe::start::line_start` meets its contract: the line that i lies in begins where the place's line does.
use mathlib.Core.Path.{◌≡◌, sym, ap, ◌∙◌}
use Rattle.probe.specs.RecordStart.{line_start}
use Prim.Native.Nat.{◌-◌}
use native.Mathlib.Omega.{arith}
use Rattle.probe.proofs.Starts.{line_stop, line_min, look_back}
use borrow.Author.Rules.{rules}
use Rattle.probe.proofs.start.line_start.Goals as goal

pub loop-init : goal.loop-init
loop-init c =
    let s = c.args.s.now in
    (omega (arith, c.min-i.ensures), ap (line_start s) c.min-i.ensures ∙ line_min s c.args.place)

pub returns-then-s-i-eq10 : goal.returns-then-s-i-eq10
returns-then-s-i-eq10 c =
    let s = c.args.s.now in
    let i = c.loop.i in
    let n = c.in-Some.n in
    let (within, back) = look_back s i (search rules) (sym c.last_low.ensures ∙ c.in-Some.is) in
    sym (back ∙ line_stop s (i - n) (omega arith) c.if-s-i-eq10.true) ∙ c.loop.invariant.1

pub loop-preserved : goal.loop-preserved
loop-preserved c =
    let (within, back) = look_back c.args.s.now c.loop.i (search rules) (sym c.last_low.ensures ∙ c.in-Some.is) in
    let whole : c.in-Some.n ≡ 8 = omega arith in
    (search rules, sym (rw whole at back) ∙ c.loop.invariant.1)

pub returns : goal.returns
returns c = c.line_start_far.ensures ∙ c.loop.invariant.1
