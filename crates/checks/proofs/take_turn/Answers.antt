-- `checks::take_turn` meets its contract: by what is read at the place, and by the order of the two names.
use borrow.Author.Tests.{lt-ltb, le-ltb}
use Rattle.parse.proofs.Slices.{rest_is}
use Rattle.checks.specs.Check.{turn_of}
use Rattle.checks.proofs.take_turn.Goals as goal

pub returns-then-file-place : goal.returns-then-file-place
unfolding turn_of
returns-then-file-place c = rw (le-ltb _ _ c.if-file-place.true)

pub returns-in-Err : goal.returns-in-Err
unfolding turn_of
returns-in-Err c =
    rw (lt-ltb _ _ c.if-file-place.false, ← rest_is c.args.file.now c.args.place, ← c.reference.ensures, c.in-Err.is)

pub returns-then-not-is_less : goal.returns-then-not-is_less
unfolding turn_of
returns-then-not-is_less c =
    rw (lt-ltb _ _ c.if-file-place.false, ← rest_is c.args.file.now c.args.place, ← c.reference.ensures, c.in-Ok.is, ← c.name_of.ensures, ← c.is_less.ensures, c.if-not-is_less.true)

pub returns-else-not-is_less : goal.returns-else-not-is_less
unfolding turn_of
returns-else-not-is_less c =
    rw (lt-ltb _ _ c.if-file-place.false, ← rest_is c.args.file.now c.args.place, ← c.reference.ensures, c.in-Ok.is, ← c.name_of.ensures, ← c.is_less.ensures, c.if-not-is_less.false)
