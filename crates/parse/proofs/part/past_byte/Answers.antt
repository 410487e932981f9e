-- `parse::part::past_byte` meets its contract.
use borrow.Author.Tests.{eq-eqb, ne_eqb, lt-ltb, le-ltb}
use Rattle.parse.specs.Part.{byte_at}
use Rattle.parse.proofs.part.past_byte.Goals as goal

pub returns-then-s-at : goal.returns-then-s-at
unfolding byte_at
returns-then-s-at c = simp (le-ltb _ _ c.if-s-at.true)

pub returns-then-s-at-2 : goal.returns-then-s-at-2
unfolding byte_at
returns-then-s-at-2 c = simp (lt-ltb _ _ c.if-s-at.false, ne_eqb _ _ c.if-s-at-2.true)

pub returns : goal.returns
unfolding byte_at
returns c = simp (lt-ltb _ _ c.if-s-at.false, eq-eqb _ _ c.if-s-at-2.false)
