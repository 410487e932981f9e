-- `length::length_at` meets its contract.
use mathlib.Core.Path.{◌≡◌, sym, ap, ◌∙◌}
use Prim.Native.Nat.{◌+◌, ◌*◌, ◌%◌, ◌≤◌}
use native.Mathlib.Omega.{arith}
use lib.ListN.{get_or, length}
use Rattle.length.proofs.Groups.{no_group, one_group, second_missing, second_zero, third_group, two_groups}
use Rattle.length.proofs.length_at.Goals as goal
use Rattle.length.proofs.length_at.Goals.{then-high-eq0-via-then-high-eq0, then-high-eq0-via-else-high-eq0+then-high-ge128}
use Rattle.length.specs.Length.{length_of}

pub returns-in_err-get : goal.returns-in_err-get
returns-in_err-get c =
    let end : length c.args.s.now ≤ c.args.at = grind arith in
    c.from_residual.ensures ∙ sym (no_group c.args.s.now c.args.at end)

pub returns-then-low-lt128 : goal.returns-then-low-lt128
returns-then-low-lt128 c =
    let (inside, there) = c.in_ok-get.ensures.lookup.3 in
    let low : c.from-low.result ≡ get_or c.args.s.now c.args.at 0 = c.from-low.ensures ∙ there 0 in
    ap (λ x. length_of x (c.args.at + 1)) low ∙ sym (one_group c.args.s.now c.args.at inside (omega arith))

pub returns-in_err-get-2 : goal.returns-in_err-get-2
returns-in_err-get-2 c =
    let (inside, there) = c.in_ok-get.ensures.lookup.3 in
    let low : c.from-low.result ≡ get_or c.args.s.now c.args.at 0 = c.from-low.ensures ∙ there 0 in
    let end : length c.args.s.now ≤ c.args.at + 1 = grind arith in
    c.from_residual-in_err-get-2.ensures ∙ sym (second_missing c.args.s.now c.args.at inside (omega arith) end)

pub returns-then-high-eq0 : goal.returns-then-high-eq0
returns-then-high-eq0 c =
    let (inside, there) = c.in_ok-get.ensures.lookup.3 in
    let low : c.from-low.result ≡ get_or c.args.s.now c.args.at 0 = c.from-low.ensures ∙ there 0 in
    let high : c.from-high.result ≡ get_or c.args.s.now (c.args.at + 1) 0 = c.from-high.ensures ∙ c.in_ok-get-2.ensures.lookup.3.1 0 in
    let more : 128 ≤ get_or c.args.s.now c.args.at 0 = omega arith in
    elim c.then-high-eq0.branch [
      | then-high-eq0-via-then-high-eq0 w ↦ sym (second_zero c.args.s.now c.args.at inside more (omega (arith, w.if-high-eq0)))
      | then-high-eq0-via-else-high-eq0+then-high-ge128 w ↦ sym (third_group c.args.s.now c.args.at inside more (omega (arith, w.if-high-ge128)))
    ]

pub returns : goal.returns
returns c =
    let (inside, there) = c.in_ok-get.ensures.lookup.3 in
    let low : c.from-low.result ≡ get_or c.args.s.now c.args.at 0 = c.from-low.ensures ∙ there 0 in
    let high : c.from-high.result ≡ get_or c.args.s.now (c.args.at + 1) 0 = c.from-high.ensures ∙ c.in_ok-get-2.ensures.lookup.3.1 0 in
    let value : c.from-low.result % 128 + 128 * c.from-high.result ≡ get_or c.args.s.now c.args.at 0 % 128 + 128 * get_or c.args.s.now (c.args.at + 1) 0 = rw (low, high) in
    ap (λ x. length_of x (c.args.at + 1 + 1)) value
    ∙ sym (two_groups c.args.s.now c.args.at inside (omega arith) (λ z. omega arith) (omega arith))
