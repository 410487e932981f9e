-- `name::by_one` meets its contract. The invariant: the name is valid exactly if its bytes from i on pass, and
-- `.lock` ends no component that ends at i or behind it. Assumes nothing.
use mathlib.Core.Path.{◌≡◌, sym, ◌∙◌}
use mathlib.Core.Bool.{and-false}
use native.Mathlib.Omega.{arith}
use lib.ListN.{get_or}
use Rattle.class.specs.Class.{classes_of}
use Rattle.name.proofs.Components.{lock_before, locked_at}
use Rattle.name.proofs.OnePass.{valid_pass}
use Rattle.name.proofs.by_one.Goals as goal

pub loop-i-init : goal.loop-i-init
loop-i-init c = valid_pass (classes_of c.args.t.now) c.args.s.now

-- `.lock` before a slash: a component that ends here
pub returns-then-lock_before : goal.returns-then-lock_before
returns-then-lock_before c =
    let more = c.loop-i-test.true in
    let lock = sym c.lock_before.ensures ∙ c.if-lock_before.true in
    let slash : get_or c.args.s.now c.loop-i.i 0 ≡ 47 = omega arith in
    rw (c.loop-i.invariant, locked_at, slash, lock, and-false)
