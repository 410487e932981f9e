-- `places::text::by_letter` meets its contract: the order from i on is the order from the start on.
use mathlib.Core.Path.{◌≡◌, sym, ◌∙◌}
use native.Mathlib.Omega.{arith}
use Rattle.std.proofs.lemmas.Grind.{common_steps}
use Rattle.places.proofs.Texts.{same_letter, some_letter}
use Rattle.places.proofs.text.by_letter.Goals as goal

pub overflow_add-i : goal.overflow_add-i
overflow_add-i c = omega (arith, some_letter c.args.x.now c.loop-order.i c.letter_at-a.result c.letter_at-a.ensures c.if-a-eq0.false)

pub loop-order-smaller : goal.loop-order-smaller
loop-order-smaller c = omega (arith, some_letter c.args.x.now c.loop-order.i c.letter_at-a.result c.letter_at-a.ensures c.if-a-eq0.false)

pub loop-order-preserved : goal.loop-order-preserved
loop-order-preserved c =
    let same : c.letter_at-a.result ≡ c.letter_at.result = grind (arith, common_steps) in
    sym (same_letter c.args.x.now c.args.y.now c.loop-order.i (omega arith) (λ e. omega arith)) ∙ c.loop-order.invariant
