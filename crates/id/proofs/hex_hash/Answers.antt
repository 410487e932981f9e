-- `id::hex_hash` meets its contract: beyond the end stand no digits, and fewer bytes than n hold fewer digits.
use mathlib.Core.Path.{sym, ap, ◌∙◌}
use native.Mathlib.Omega.{arith}
use borrow.Author.Tests.{leb-true, leb-false}
use lib.ListN.{drop, length-drop}
use Rattle.class.specs.Class.{paper, is_hex}
use Rattle.parse.proofs.Runs.{span_le, span_end}
use Rattle.id.proofs.Digits.{in_slice}
use Rattle.id.proofs.Ids.{id_read, id_unread}
use Rattle.id.proofs.hex_hash.Goals as goal
use Rattle.std.specs.declared.option.Option.TheVariants.{Some}

pub returns-then-n-eq0 : goal.returns-then-n-eq0
returns-then-n-eq0 c =
    let a = c.args in
    ap Some (omega arith) ∙ sym (id_read paper a.n a.s.now a.at (omega arith))

pub returns-else-n-eq0 : goal.returns-else-n-eq0
returns-else-n-eq0 c =
    let a = c.args in
    sym (id_unread paper a.n a.s.now a.at (omega (arith, span_end is_hex a.s.now a.at (omega arith))))

pub returns-then-s-at-2 : goal.returns-then-s-at-2
returns-then-s-at-2 c =
    let a = c.args in
    sym (id_unread paper a.n a.s.now a.at (omega (arith, span_le is_hex (drop a.at a.s.now), length-drop a.at a.s.now)))

pub returns-then-all_hex : goal.returns-then-all_hex
returns-then-all_hex c =
    let a = c.args in
    sym (id_read paper a.n a.s.now a.at (leb-true _ _ (in_slice is_hex a.s.now a.at a.n (omega arith) ∙ sym c.all_hex.ensures ∙ c.if-all_hex.true)))

pub returns-else-all_hex : goal.returns-else-all_hex
returns-else-all_hex c =
    let a = c.args in
    sym (id_unread paper a.n a.s.now a.at (leb-false _ _ (in_slice is_hex a.s.now a.at a.n (omega arith) ∙ sym c.all_hex.ensures ∙ c.if-all_hex.false)))
