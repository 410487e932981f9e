-- `runs::is_still` meets its contract: each entry of the index passes the test exactly if nothing is left that changes a record.
use mathlib.Core.Path.{◌∙◌}
use borrow.Author.Rules.{rules}
use borrow.Author.Tests.{tests}
use Rattle.std.proofs.lemmas.Iterator.{YieldsList-from_slice}
use Rattle.std.proofs.lemmas.Iterator.Consumers.{YieldsList-from_enumerate}
use Rattle.std.proofs.lemmas.Iterator.Search.{all_from_yields_List}
use Rattle.runs.proofs.Still.{leaves, still_is}
use Rattle.runs.proofs.is_still.Goals as goal

pub returns : goal.returns
returns c =
    let a = c.args in
    all_from_yields_List (leaves a.list.now a.marks.now) _ _ _ c.all.ensures.ran
    (YieldsList-from_enumerate (YieldsList-from_slice a.index.now (cc)) (cc))
    (λ x b q k. search (rules, tests))
    ∙ still_is a.list.now a.marks.now a.index.now
