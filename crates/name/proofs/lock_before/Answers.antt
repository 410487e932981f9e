-- `name::lock_before` meets its contract: where `.lock` ends the bytes before a place, it stands five bytes before that place.
-- Assumes nothing.
use mathlib.Core.Path.{sym}
use mathlib.Core.Bool.{and-true, and-false}
use Prim.Native.Nat.{◌-◌, ◌≤◌}
use native.Mathlib.Omega.{arith}
use borrow.Author.Tests.{le-leb, ne_eqb}
use lib.ListN.{length}
use Rattle.name.proofs.Ends.{lock_nowhere, lock_stands}
use Rattle.name.proofs.lock_before.Goals as goal

pub returns-then-s-at : goal.returns-then-s-at
returns-then-s-at c = sym (lock_nowhere c.args.s.now c.args.at (λ fits. omega arith))

-- the last letter is this one
pub returns-then-s-start-eq107 : goal.returns-then-s-start-eq107
returns-then-s-start-eq107 c =
    let a = c.args in
    let fits : a.at ≤ length a.s.now = omega arith in
    rw (le-leb a.at (length a.s.now) fits, lock_stands a.s.now a.at fits (a.at - 5) (omega arith), c.if-s-start-eq107.true, and-true)

-- it is another
pub returns-else-s-start-eq107 : goal.returns-else-s-start-eq107
returns-else-s-start-eq107 c =
    let a = c.args in
    let fits : a.at ≤ length a.s.now = omega arith in
    rw (le-leb a.at (length a.s.now) fits, lock_stands a.s.now a.at fits (a.at - 5) (omega arith), ne_eqb _ _ c.if-s-start-eq107.false, and-false)
