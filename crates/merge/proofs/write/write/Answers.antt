-- `merge::write::write` meets its contract: what is left of the new file, put where the writing has come to, makes what is wanted.
use mathlib.Core.Path.{sym, ap, ◌∙◌}
use Prim.Native.Nat.{◌≤◌, ◌<◌}
use native.Mathlib.Omega.{arith}
use lib.ListN.{length}
use Rattle.parse.proofs.Slices.{rest_is}
use Rattle.put.specs.Cr.{without_cr}
use Rattle.put.proofs.Laws.{puts_then}
use Rattle.merge.specs.Splice.{spliced_file}
use Rattle.merge.proofs.Splice.{puts_as, old_bytes, spliced_from, spliced_end, put_turn}
use borrow.Author.Rules.{rules}
use Rattle.merge.proofs.write.write.Goals as goal

pub loop-j-preserved : goal.loop-j-preserved
loop-j-preserved c =
    let a = c.args in
    let l = c.loop-j in
    let before = l.invariant in
    let inside : l.j < length a.index.now = search rules in
    let room : length l.out ≤ 18446744073709551615 = omega (arith, before.0, c.bytes-at.auto.out, c.well_formed) in
    let old = ap without_cr c.between.ensures ∙ ap (old_bytes a.file.now l.from) c.mark_at.ensures in
    let t =
    put_turn a.n a.file.now a.list.now a.index.now a.marks.now l.from l.j inside l.out _ _ l.at _ _ room (puts_as l.out l.at old c.lf-at.ensures)
    (c.put_new-at.ensures.out_after, c.put_new-at.ensures.value)
    in
    rw c.mark_at-from.ensures (c.put_new-at.auto.out ∙ c.lf-at.auto.out ∙ before.0, t.0 ∙ before.1, t.1 ∙ before.2)

pub returns : goal.returns
unfolding spliced_file
returns c =
    let a = c.args in
    let l = c.loop-j in
    -- what was left to be put at first, and what is left
    let whole = spliced_from a.n a.file.now a.list.now a.index.now a.marks.now a.body 0 in
    let left =
    ap without_cr (c.between-2.ensures ∙ rest_is a.file.now l.from)
    ∙ sym (spliced_end a.n a.file.now a.list.now a.index.now a.marks.now l.from l.j (search rules))
    in
    let last = puts_as l.out l.at left c.lf.ensures in
    let all =
    puts_then a.out.now _ _ 0 _ _ a.header.now whole (omega (arith, c.well_formed)) c.bytes-at.ensures
    (last.0 ∙ l.invariant.1, last.1 ∙ l.invariant.2)
    in
    record { value = all.1; out_after = all.0 }
