-- `parse::limit::admit` meets its contract.
use mathlib.Core.Path.{sym, ◌∙◌}
use Rattle.parse.specs.Limit.{admission}
use Rattle.parse.proofs.limit.admit.Goals as goal
use Rattle.parse.proofs.limit.admit.Goals.{then-over_limit-via-then-over_limit, then-over_limit-via-else-over_limit+then-over_limit-2}

pub returns-in_default : goal.returns-in_default
unfolding admission
returns-in_default c = rw (sym c.digits.ensures ∙ c.in_default.is)

pub returns-then-over_limit : goal.returns-then-over_limit
unfolding admission
returns-then-over_limit c =
    elim c.then-over_limit.branch [
      | then-over_limit-via-then-over_limit w ↦ rw (sym c.digits.ensures ∙ c.in-Some.is, sym c.over_limit.ensures ∙ w.if-over_limit.true)
      | then-over_limit-via-else-over_limit+then-over_limit-2 w ↦
          rw (
            sym c.digits.ensures ∙ c.in-Some.is,
            sym c.over_limit.ensures ∙ w.if-over_limit.false,
            sym w.over_limit-else-over_limit.ensures ∙ w.if-over_limit-2.true,
          )
    ]

pub returns : goal.returns
unfolding admission
returns c =
    rw (
      sym c.digits.ensures ∙ c.in-Some.is,
      sym c.over_limit.ensures ∙ c.if-over_limit.false,
      sym c.over_limit-else-over_limit.ensures ∙ c.if-over_limit-2.false,
    )
