-- `name::may_follow` meets its contract: of each byte, only the pairs that end in it are left to judge. Assumes nothing.
use mathlib.Core.Path.{◌≡◌, sym, ◌∙◌}
use mathlib.Core.Bool.{false, and-true, and-false}
use native.Mathlib.Omega.{arith}
use borrow.Author.Tests.{ne_eqb}
use lib.Dec.{eqb}
use Rattle.class.specs.Class.{classes_of}
use Rattle.name.proofs.Bools.{not_and}
use Rattle.name.proofs.may_follow.Goals as goal

pub returns-then-is_forbidden : goal.returns-then-is_forbidden
returns-then-is_forbidden c = rw (sym c.is_forbidden.ensures ∙ c.if-is_forbidden.true)

-- behind the first test
allowed-Then-b-gt47 : (c : goal.Then-b-gt47) → (classes_of c.args.t.now).forbidden c.args.b ≡ false
allowed-Then-b-gt47 c = sym c.is_forbidden.ensures ∙ c.if-is_forbidden.false

-- the byte is beyond the slash
pub returns-then-b-gt47 : goal.returns-then-b-gt47
returns-then-b-gt47 c =
    let a = c.args in
    let beyond = c.if-b-gt47.true in
    rw ((allowed-Then-b-gt47 c), ne_eqb a.b 46 (λ e. omega arith), ne_eqb a.b 47 (λ e. omega arith)) (simp (and-true, and-false) (sym (not_and (eqb a.before 64) (eqb a.b 123))))

-- behind the first test
allowed-Then-b-eq47 : (c : goal.Then-b-eq47) → (classes_of c.args.t.now).forbidden c.args.b ≡ false
allowed-Then-b-eq47 c = sym c.is_forbidden.ensures ∙ c.if-is_forbidden.false

-- it is a slash, a dot
pub returns-then-b-eq47 : goal.returns-then-b-eq47
returns-then-b-eq47 c = rw ((allowed-Then-b-eq47 c), c.if-b-eq47.true) (simp (and-true, and-false))

-- behind the first test
allowed-Then-b-eq46 : (c : goal.Then-b-eq46) → (classes_of c.args.t.now).forbidden c.args.b ≡ false
allowed-Then-b-eq46 c = sym c.is_forbidden.ensures ∙ c.if-is_forbidden.false

pub returns-then-b-eq46 : goal.returns-then-b-eq46
returns-then-b-eq46 c = rw ((allowed-Then-b-eq46 c), c.if-b-eq46.true) (simp (and-true, and-false))

-- behind the first test
allowed-Else-b-eq46 : (c : goal.Else-b-eq46) → (classes_of c.args.t.now).forbidden c.args.b ≡ false
allowed-Else-b-eq46 c = sym c.is_forbidden.ensures ∙ c.if-is_forbidden.false

-- it is none of them
pub returns : goal.returns
returns c =
    let a = c.args in
    let small = c.if-b-gt47.false in
    simp (
      (allowed-Else-b-eq46 c),
      ne_eqb a.b 46 c.if-b-eq46.false,
      ne_eqb a.b 47 c.if-b-eq47.false,
      ne_eqb a.b 123 (λ e. omega arith),
      and-false,
    )
