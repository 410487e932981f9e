-- `parse::line::text_end` meets its contract.
use Rattle.std.proofs.Common.{◌≡◌, ◌≤◌, ◌+◌, ℕ, false, not, ap, ◌∙◌, rules, tests, arith, drop}
use borrow.Author.Tests.{ne_eqb}
use Rattle.class.specs.Class.{is_line_end}
use Rattle.parse.specs.Run.{span}
use Rattle.parse.proofs.Slices.{rest_is}
use Rattle.parse.proofs.line.text_end.Goals as goal

-- line ends are low
none_high : (b : ℕ) → 14 ≤ b → is_line_end b ≡ false
unfolding is_line_end
none_high b h = rw (ne_eqb b 10 (λ e. omega arith), ne_eqb b 13 (λ e. omega arith))

pub returns : goal.returns
returns c =
    let s = c.args.s.now in
    let first = c.until_low.ensures.first is_line_end (λ b t h q. search (rules, tests)) none_high in
    let rest : c.in-Some.rest.now ≡ drop c.args.at s = c.in-Some.ensures.lookup.0.2 ∙ rest_is s c.args.at in
    ap (λ (k : ℕ). c.args.at + k) (first ∙ ap (span (λ b. not (is_line_end b))) rest)
