-- `put::copy` meets its contract: what is left of src, put from at + i on, makes what is wanted.
use mathlib.Core.Path.{sym, ◌∙◌}
use native.Mathlib.Omega.{arith}
use Rattle.put.proofs.Turns.{copy_turn, copy_end}
use Rattle.put.proofs.copy.Goals as goal

pub loop-i-preserved : goal.loop-i-preserved
loop-i-preserved c =
    let l = c.loop-i in
    copy_turn l.out c.args.src.now c.args.at l.i (omega (arith, l.auto.out)) (omega (arith, l.auto.out)) ∙ l.invariant

pub returns-after-loop-i : goal.returns-after-loop-i
returns-after-loop-i c =
    let l = c.loop-i in
    sym (copy_end l.out c.args.src.now c.args.at l.i (omega (arith, l.auto.out))) ∙ l.invariant
