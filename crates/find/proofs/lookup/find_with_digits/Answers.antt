-- `find::lookup::find_with_digits` meets its contract.
use borrow.Author.Rules.{rules}
use Rattle.parse.proofs.Slices.{rest_is}
use Rattle.find.specs.Lookup.{lookup_of}
use Rattle.find.proofs.lookup.find_with_digits.Goals as goal

pub returns-then-not-is_valid : goal.returns-then-not-is_valid
unfolding lookup_of
returns-then-not-is_valid c = search rules

pub returns-in-Err-true : goal.returns-in-Err-true
unfolding lookup_of
returns-in-Err-true c = rw (← c.is_valid.ensures, c.if-not-is_valid.false, ← c.search.ensures, c.in-Err-true.is) (search rules)

pub returns-in-Err-false : goal.returns-in-Err-false
unfolding lookup_of
returns-in-Err-false c = rw (← c.is_valid.ensures, c.if-not-is_valid.false, ← c.search.ensures, c.in-Err-false.is) (search rules)

pub returns-in-Ok-reference : goal.returns-in-Ok-reference
unfolding lookup_of
returns-in-Ok-reference c =
    rw (← c.is_valid.ensures, c.if-not-is_valid.false, ← c.search.ensures, c.in-Ok.is, ← rest_is c.args.body.now c.in-Ok.place, ← c.between.ensures, ← c.reference.ensures, c.in-Ok-reference.is)

pub returns-in-Err : goal.returns-in-Err
unfolding lookup_of
returns-in-Err c =
    rw (← c.is_valid.ensures, c.if-not-is_valid.false, ← c.search.ensures, c.in-Ok.is, ← rest_is c.args.body.now c.in-Ok.place, ← c.between.ensures, ← c.reference.ensures, c.in-Err.is)
