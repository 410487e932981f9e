-- `line_number::line_feeds` meets its contract: those counted are those of the bytes passed.
use Rattle.std.proofs.Common.{◌≡◌, take}
use Rattle.line_number.specs.LineNumber.{line_feeds}
use Rattle.line_number.proofs.line_feeds.Given as goal

abbrev pub invariant-loop-b : goal.invariant-loop-b
invariant-loop-b l = l.count ≡ line_feeds (take l.b-index l.s)
