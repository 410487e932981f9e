-- `name::is_plain` meets its contract: what it asks of the ends and of the inside makes a valid name. Assumes nothing.
use mathlib.Core.Path.{sym, ◌∙◌}
use mathlib.Core.Bool.{not, ◌||◌}
use Prim.Native.Nat.{◌-◌}
use borrow.Author.Tests.{not-false}
use lib.Dec.{eqb}
use lib.ListN.{length, get_or}
use Rattle.name.proofs.Bools.{neither}
use Rattle.name.proofs.PlainNames.{plain_valid}
use Rattle.name.proofs.is_plain.Goals as goal

pub returns-then-plain_inside : goal.returns-then-plain_inside
returns-then-plain_inside c =
    let s = c.args.s.now in
    let last = get_or s (length s - 1) 0 in
    let well = neither (not c.is_plain_pair-begins_well.result) (eqb last 47 || (eqb last 46 || eqb last 107)) c.if-begins_well-last.false in
    let no_slash = neither (eqb last 47) (eqb last 46 || eqb last 107) well.1 in
    let no-dot = neither (eqb last 46) (eqb last 107) no_slash.1 in
    λ e. plain_valid
    s
    (sym c.is_plain_pair-begins_well.ensures ∙ not-false _ well.0)
    (c.plain_inside.ensures c.if-plain_inside.true)
    (c.has_slash.ensures e)
    (no_slash.0, no-dot.0, no-dot.1)
