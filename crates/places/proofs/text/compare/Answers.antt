-- `places::text::compare` meets its contract: sixteen bytes that are alike are skipped, the rest goes letter by letter.
use mathlib.Core.Path.{sym, ◌∙◌}
use Rattle.places.proofs.Texts.{skip}
use Rattle.places.proofs.text.compare.Goals as goal

pub loop-i-preserved : goal.loop-i-preserved
loop-i-preserved c = sym (skip c.args.x.now c.args.y.now c.loop-i.i 16 (c.alike16.ensures c.loop-i-test.true)) ∙ c.loop-i.invariant
