-- `loose::first` meets its contract: the library's search of the bytes from a place on ends where the run of bytes that fail the test ends.
use mathlib.Core.Path.{ap, ◌∙◌}
use mathlib.Core.Bool.{not}
use Prim.Native.Nat.{◌+◌}
use borrow.Author.Rules.{rules}
use Rattle.std.proofs.lemmas.Iterator.{YieldsList-from_slice}
use Rattle.std.proofs.lemmas.Iterator.Search.{position_from_yields_List}
use Rattle.parse.specs.Run.{span}
use Rattle.parse.proofs.Slices.{rest_is}
use Rattle.loose.proofs.Runs.{first_span}
use Rattle.loose.proofs.first.Goals as goal

pub returns : goal.returns
returns g c = λ fails h.
    let rest = c.between-rest.result.now in
    let place =
    position_from_yields_List (λ b. not (fails b)) _ _ c.position.result c.position.ensures.ran (YieldsList-from_slice rest cc) (λ x b q k. search (rules, h)) in
    ap (λ k. c.args.at + k) (c.unwrap_or.ensures ∙ first_span fails rest c.position.result place ∙ ap (span fails) (c.between-rest.ensures ∙ rest_is c.args.s.now c.args.at))
