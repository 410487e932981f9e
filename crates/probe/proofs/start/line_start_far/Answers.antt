-- `probe::start::line_start_far` meets its contract: what is left are the first bytes, and the line that they end in begins where the place's line does.
use Rattle.std.proofs.Common.{◌≡◌, ◌+◌, ◌-◌, arith, sym, ap, ◌∙◌, length, false, take, drop, List, ℕ}
use lib.Seq.{length-take-le}
use Rattle.block.specs.Among.{among}
use Rattle.probe.specs.RecordStart.{line_start}
use Rattle.probe.proofs.Starts.{line_min, line_clear, front_start, front_split}
use Rattle.probe.proofs.start.line_start_far.Goals as goal

pub loop-front-init : goal.loop-front-init
loop-front-init c =
    let s = c.args.s.now in
    let l = length-take-le c.min.result s (omega (arith, c.min.ensures)) in
    (omega (arith, l), ap (λ (n : ℕ). take n s) (sym l), ap (line_start s) (l ∙ c.min.ensures) ∙ line_min s c.args.place)

-- what was looked at are the last sixteen bytes of what is left
pub loop-front-preserved : goal.loop-front-preserved
loop-front-preserved c =
    let s = c.args.s.now in
    let inv = c.loop-front.invariant in
    let cases = c.in-Some.ensures.cases in
    let n = length c.loop-front.rest.now in
    let k = n - 16 in
    let short : length c.in-Some.front.now ≡ k = omega (arith, cases.2) in
    let whole : k + (n - k) ≡ n = omega arith in
    let (front, sixteen) = front_split s k (omega arith) inv.1 cases.0 cases.1 in
    let none : among 10 (take (n - k) (drop k s)) ≡ false = grind (arith, sixteen, c.among.ensures, c.if-among.false) in
    let over = line_clear s k (n - k) (omega (arith, inv.0)) none in
    (omega (arith, short, inv.0), front ∙ ap (λ (m : ℕ). take m s) (sym short), ap (line_start s) short ∙ over ∙ ap (line_start s) whole ∙ inv.2)

pub returns : goal.returns
returns c =
    let inv = c.loop-front.invariant in
    c.by_one.ensures ∙ ap (λ (r : List ℕ). line_start r (length r)) inv.1 ∙ front_start c.args.s.now inv.0 ∙ inv.2
