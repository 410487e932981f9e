-- `word::low_digit` meets its contract.
use Rattle.std.proofs.Common.{ℕ, Some, ◌+◌, ◌-◌, ◌/◌, sym, ap, ◌∙◌, arith, bit_and}
use lib.Count.{count_trailing_zeros}
use Rattle.word.proofs.Lows.{highs, lifts, half, told_high, told_low}
use Rattle.word.proofs.low_digit.Goals as goal

pub returns-then-x-ne0 : goal.returns-then-x-ne0
returns-then-x-ne0 c s long all e = sym (told_high s long all (λ z. c.if-x-ne0.true (ap (λ (x : ℕ). bit_and x highs) e ∙ z)))

pub overflow_add-high : goal.overflow_add-high
overflow_add-high c = omega (arith, half c.args.x (omega arith) c.if-x-ne0.false)

pub returns : goal.returns
returns c s long all e =
    ap (λ (x : ℕ). Some (count_trailing_zeros 64 (highs - bit_and (x + lifts) highs) / 8)) e
    ∙ told_low s long all (ap (λ (x : ℕ). bit_and x highs) (sym e) ∙ c.if-x-ne0.false)
