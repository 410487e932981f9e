-- `parse::scan::by_one` meets its contract.
use Rattle.std.proofs.Common.{ℕ, rules, tests, eqb}
use Rattle.std.proofs.lemmas.Iterator.{YieldsList-from_slice}
use Rattle.std.proofs.lemmas.Iterator.Search.{position_from_yields_List}
use Rattle.parse.proofs.Runs.{span_found}
use Rattle.parse.proofs.scan.by_one.Goals as goal

pub returns : goal.returns
returns c =
    let s = c.args.s.now in
    let test = λ (x : ℕ). eqb x c.args.b in
    let found = position_from_yields_List test _ _ c.position.result c.position.ensures.ran (YieldsList-from_slice s cc) (λ x r q k. search (rules, tests)) in
    span_found test s found c.unwrap_or.ensures
