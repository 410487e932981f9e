-- `line_number::line_feeds` meets its contract: those counted are those of the bytes passed.
use Rattle.std.proofs.Common.{◌+◌, rules, arith}
use Rattle.line_number.proofs.Feeds.{feeds_next, feeds_le}
use Rattle.line_number.proofs.line_feeds.Goals as goal

pub overflow_add-count : goal.overflow_add-count
overflow_add-count c =
    let s = c.args.s.now in
    let i = c.loop-b.b-index in
    omega (arith, c.loop-b.invariant, c.from-count.ensures, feeds_next s i (search rules), feeds_le s (i + 1), c.well_formed)

pub loop-b-preserved : goal.loop-b-preserved
loop-b-preserved c =
    let next = feeds_next c.args.s.now c.loop-b.b-index (search rules) in
    omega (arith, c.loop-b.invariant, c.from-count.ensures)
