-- `parse::scan::next_byte` meets its contract: sixteen bytes without b are passed over, and the rest is looked through by smaller steps.
use Rattle.std.proofs.Common.{not, rules, tests, arith, eqb}
use borrow.Author.Tests.{ne_eqb}
use Rattle.parse.proofs.Runs.{span_le}
use Rattle.parse.proofs.scan.next_byte.Goals as goal

pub overflow_add-result-2 : goal.overflow_add-result-2
overflow_add-result-2 c = omega (arith, c.by_one.ensures, span_le (λ x. not (eqb x c.args.b)) c.loop-behind.rest.now, c.loop-behind.invariant.inside)

pub returns-then-b-lt14 : goal.returns-then-b-lt14
returns-then-b-lt14 c =
    let first = c.until_low.ensures.first (λ x. eqb x c.args.b) (λ x t h q. search (rules, tests)) (λ x h. ne_eqb x c.args.b (λ e. omega arith)) in
    omega (arith, c.loop-behind.invariant)
