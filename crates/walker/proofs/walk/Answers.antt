-- `walker::walk` meets its contract: the step's answer on the line that was given, and the line feeds of what it tells.
use mathlib.Core.Path.{◌≡◌, sym, ap, ◌∙◌}
use mathlib.Core.List.{[]}
use Prim.Native.Nat.{ℕ, ◌+◌}
use Rattle.line_number.specs.LineNumber.{at_most}
use Rattle.iter.specs.Step.{step_answer}
use Rattle.walker.proofs.Walks.{walked_on}
use borrow.Author.Rules.{rules}
use Rattle.walker.proofs.walk.Goals as goal
use Rattle.std.specs.declared.result.Result.TheVariants.{Ok}

pub returns-in-Ok : goal.returns-in-Ok
returns-in-Ok c =
    let a = c.args in
    let said : step_answer a.kind [] a.s.now a.place a.line ≡ Ok c.in-Ok.step = sym c.next_on_line-answer.ensures ∙ c.in-Ok.is in
    rw said
    (ap (λ (l : ℕ). record { answer = Ok c.in-Ok.step; line = l })
    (c.more_lines.ensures ∙ ap (λ (l : ℕ). at_most (a.line + l)) c.feeds_of.ensures ∙ walked_on a.kind a.s.now a.place a.line _ (search rules) said))
