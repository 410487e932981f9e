-- `line_number::line_number` meets its contract.
use mathlib.Core.Path.{◌≡◌, ap, ◌∙◌}
use Prim.Native.Nat.{ℕ, ◌-◌}
use native.Mathlib.Omega.{arith}
use lib.ListN.{take}
use Rattle.line_number.specs.LineNumber.{line_number, line_feeds, at_most}
use Rattle.line_number.proofs.line_number.Goals as goal

pub returns : goal.returns
unfolding line_number
returns c =
    let a = c.args in
    let whole : a.place - 0 ≡ a.place = omega arith in
    let before : line_feeds c.between.result.now ≡ line_feeds (take a.place a.s.now) =
    ap line_feeds (c.between.ensures ∙ ap (λ (k : ℕ). take k a.s.now) whole) in
    c.more_lines.ensures ∙ ap at_most (omega (arith, c.line_feeds.ensures, before))
