-- `header::note_tokens` meets its contract: the parts between spaces are the tokens, and each is noted on what was noted before.
use mathlib.Core.Path.{◌∙◌}
use lib.Dec.{eqb}
use Rattle.std.proofs.Common.{rules, tests}
use Rattle.std.proofs.lemmas.Iterator.Splits.{YieldsList-from_slice_split}
use Rattle.std.proofs.lemmas.Iterator.Consumers.{fold_from_yields_List}
use Rattle.header.specs.Header.{noted}
use Rattle.header.proofs.Tokens.{noted_by_library}
use Rattle.header.proofs.note_tokens.Goals as goal

pub returns : goal.returns
returns c =
    fold_from_yields_List _ (λ h w. noted w h) c.args.before c.fold.result c.fold.ensures.ran
    (YieldsList-from_slice_split _ (λ b. eqb b 32) c.args.text.now c.split.ensures.rest c.split.ensures.done c.split.ensures.closure (λ x b q k. search (rules, tests)))
    (λ a x b q k. search rules)
    ∙ noted_by_library c.args.text.now c.args.before
