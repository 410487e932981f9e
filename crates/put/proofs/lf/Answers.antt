-- `put::lf` meets its contract: what is left of src, put behind what is put already, makes what is wanted.
use mathlib.Core.Path.{refl, ◌∙◌}
use Prim.Native.Nat.{◌≤◌}
use native.Mathlib.Omega.{arith}
use lib.ListN.{length}
use Rattle.put.proofs.Turns.{piece_fits, piece_turn, piece_last}
use borrow.Author.Rules.{rules}
use Rattle.put.proofs.lf.Goals as goal

pub loop-at-init : goal.loop-at-init
loop-at-init c = (search rules, refl, refl, refl)

pub slice_bounds-bytes-end : goal.slice_bounds-bytes-end
slice_bounds-bytes-end c =
    piece_fits c.args.src.now c.loop-at.from c.next_byte-end.result c.loop-at.invariant.0 c.next_byte-end.ensures

pub returns-then-src-end : goal.returns-then-src-end
returns-then-src-end c =
    let l = c.loop-at in
    let room : length l.out ≤ 18446744073709551615 = omega (arith, c.well_formed, l.invariant.1) in
    let last =
    piece_last c.args.src.now l.from c.next_byte-end.result l.invariant.0 c.next_byte-end.ensures l.out _ l.to _ room c.bytes-to.ensures c.if-src-end.true
    in
    (last.0 ∙ l.invariant.2, last.1 ∙ l.invariant.3)

pub loop-at-preserved : goal.loop-at-preserved
loop-at-preserved c =
    let l = c.loop-at in
    let room : length l.out ≤ 18446744073709551615 = omega (arith, c.well_formed, l.invariant.1) in
    let t = piece_turn c.args.src.now l.from c.next_byte-end.result l.invariant.0 c.next_byte-end.ensures l.out _ l.to _ room c.bytes-to.ensures in
    (search rules, c.bytes-to.auto.out ∙ l.invariant.1, t.0 ∙ l.invariant.2, t.1 ∙ l.invariant.3)
