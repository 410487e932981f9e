-- `name::has_slash` meets its contract: a slash that is met stands in the name. Assumes nothing.
use mathlib.Core.Path.{sym, ◌∙◌}
use borrow.Author.Rules.{rules}
use borrow.Author.Tests.{eq-eqb}
use Rattle.name.proofs.Slashes.{slash_at, slash_among}
use Rattle.name.proofs.has_slash.Goals as goal

pub returns-then-s-eq47 : goal.returns-then-s-eq47
returns-then-s-eq47 c = λ e. slash_at c.args.s.now 4 (search rules) (eq-eqb _ _ c.if-s-eq47.true)

pub returns-then-among16 : goal.returns-then-among16
returns-then-among16 c =
    λ e. slash_among c.args.s.now c.loop-at.at 16 (sym c.among16.ensures ∙ c.if-among16.true)

pub returns : goal.returns
returns c =
    λ e. slash_among c.args.s.now c.loop-at.at 16 (sym c.among16-2.ensures ∙ e)
