-- `probe::start::from_line` meets its contract.
use mathlib.Core.Path.{sym, ◌∙◌}
use Prim.Native.Nat.{◌-◌}
use native.Mathlib.Omega.{arith}
use Rattle.probe.proofs.Starts.{line_first, start_at_end, start_here, start_before}
use borrow.Author.Rules.{rules}
use Rattle.probe.proofs.start.from_line.Goals as goal

pub returns-then-s-start : goal.returns-then-s-start
returns-then-s-start c = let a = c.args in λ place e. sym (start_at_end a.s.now place a.start e c.if-s-start.true)

pub returns-then-s-start-ne94 : goal.returns-then-s-start-ne94
returns-then-s-start-ne94 c = let a = c.args in λ place e. sym (start_here a.s.now place a.start e (search rules) c.if-s-start-ne94.true)

pub returns-then-start-eq0 : goal.returns-then-start-eq0
returns-then-start-eq0 c =
    let a = c.args in
    let first = line_first a.s.now (a.start - 1) (omega (arith, c.if-start-eq0.true)) in
    λ place e. sym (start_before a.s.now place a.start e c.if-s-start-ne94.false ∙ first)

pub returns : goal.returns
returns c =
    let a = c.args in
    λ place e. c.line_start.ensures ∙ sym (start_before a.s.now place a.start e c.if-s-start-ne94.false)
