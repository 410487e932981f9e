-- `loose::full_id` meets its contract: once n digits were read, the byte behind them decides.
use mathlib.Core.Path.{sym, ap, ◌∙◌}
use mathlib.Core.Bool.{not}
use borrow.Author.Tests.{le-leb}
use lib.ListN.{get_or}
use Rattle.class.specs.Class.{paper}
use Rattle.class.proofs.Classes.{by_paper}
use Rattle.loose.proofs.Ids.{too_few, nothing_behind, by_next}
use Rattle.loose.proofs.full_id.Goals as goal

pub returns-in_default : goal.returns-in_default
returns-in_default c = sym (too_few paper c.args.n c.args.s.now (sym c.hex_hash.ensures ∙ c.in_default.is))

pub returns-then-s-end : goal.returns-then-s-end
returns-then-s-end c =
    le-leb _ _ c.if-s-end.true ∙ sym (nothing_behind paper c.args.n c.args.s.now (sym c.hex_hash.ensures ∙ c.in-Some.is) c.if-s-end.true)

pub returns-else-s-end : goal.returns-else-s-end
returns-else-s-end c =
    let a = c.args in
    ap not (c.is_hex.ensures ∙ by_paper (λ byte. byte.hex (get_or a.s.now c.in-Some.end 0)) c.table-t.ensures)
    ∙ sym (by_next paper a.n a.s.now (sym c.hex_hash.ensures ∙ c.in-Some.is) c.if-s-end.false)
