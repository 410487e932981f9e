-- `find::prefix_start::begin_with_digits` meets its contract: a hit and a miss both tell a place.
use mathlib.Core.Path.{◌≡◌, sym, ◌∙◌}
use borrow.Author.Rules.{rules}
use Rattle.class.specs.Class.{paper}
use Rattle.find.specs.PrefixStart.{prefix_start_of, place_of}
use Rattle.find.proofs.Places.{search_inside}
use Rattle.find.proofs.prefix_start.begin_with_digits.Goals as goal

pub begin_from-requires : goal.begin_from-requires
begin_from-requires c =
    let place : c.unwrap_or_else-place.result ≡ place_of c.search.result = search rules in
    rw place (search_inside paper c.args.n c.args.body.now c.args.prefix.now (sym c.search.ensures))

pub returns : goal.returns
unfolding prefix_start_of
returns c =
    let place : c.unwrap_or_else-place.result ≡ place_of c.search.result = search rules in
    rw (c.begin_from.ensures, place, c.search.ensures)
