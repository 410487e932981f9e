-- `parse::limit::digits` meets its contract.
use native.Mathlib.Omega.{arith}
use Rattle.parse.specs.Limit.{digits_of}
use Rattle.parse.proofs.limit.digits.Goals as goal

pub returns-in-1 : goal.returns-in-1
unfolding digits_of
returns-in-1 c = rw c.in-1.is

pub returns-in-2 : goal.returns-in-2
unfolding digits_of
returns-in-2 c = rw c.in-2.is

pub returns-in_default : goal.returns-in_default
unfolding digits_of
returns-in_default c = grind arith
