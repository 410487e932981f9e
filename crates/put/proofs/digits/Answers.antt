-- `put::digits` meets its contract: the digits of what is left of raw, put behind what is put already, make what is wanted.
use mathlib.Core.Path.{sym, ◌∙◌}
use native.Mathlib.Omega.{arith}
use Rattle.put.proofs.Laws.{over_beyond}
use Rattle.put.proofs.Turns.{hex_turn, hex_end}
use Rattle.put.proofs.digits.Goals as goal

pub returns-then-out-to : goal.returns-then-out-to
returns-then-out-to c =
    let l = c.loop-b in
    sym (over_beyond l.out l.to _ (omega arith)) ∙ l.invariant.1

pub loop-b-preserved : goal.loop-b-preserved
loop-b-preserved c =
    let a = c.args in
    let l = c.loop-b in (
      c.byte-in-loop-b.auto.out ∙ c.byte.auto.out ∙ l.invariant.0,
      hex_turn l.out _ _ a.raw.now l.to l.b-index _ _ c.loop-b-test.true c.high.ensures c.low.ensures c.byte.ensures.0 c.byte-in-loop-b.ensures.0
          ∙ l.invariant.1,
    )

pub returns : goal.returns
returns c =
    let l = c.loop-b in
    sym (hex_end l.out c.args.raw.now l.to l.b-index c.loop-b-test.false) ∙ l.invariant.1
