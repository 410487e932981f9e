-- `runs::mark` meets its contract: two stores side by side put two marks, as far as there is room.
use mathlib.Core.Path.{sym, ap, ◌∙◌}
use mathlib.Core.List.{[], ◌∷◌}
use Prim.Native.Nat.{◌+◌}
use native.Mathlib.Omega.{arith}
use lib.ListN.{set, length-set}
use Rattle.put.specs.Put.{over}
use Rattle.put.proofs.Laws.{over_beyond, over_byte, over_twice, length_over}
use Rattle.runs.proofs.mark.Goals as goal

pub returns-then-at-marks-2 : goal.returns-then-at-marks-2
returns-then-at-marks-2 c =
    let a = c.args in
    let d = a.marks.now in
    let one = over d a.at (a.start ∷ []) in
    ap (λ l. set l (a.at + 1) a.end) (over_byte d a.at a.start c.if-at-marks.true)
    ∙ over_byte one (a.at + 1) a.end (omega (arith, c.if-at-marks-2.true, length_over d a.at (a.start ∷ []), length-set d a.at a.start))
    ∙ over_twice d a.at (a.at + 1) (a.start ∷ []) (a.end ∷ []) (omega arith)

pub returns-else-at-marks-2 : goal.returns-else-at-marks-2
returns-else-at-marks-2 c =
    let a = c.args in
    let d = a.marks.now in
    let one = over d a.at (a.start ∷ []) in
    over_byte d a.at a.start c.if-at-marks.true
    ∙ sym (over_beyond one (a.at + 1) (a.end ∷ []) (omega (arith, c.if-at-marks-2.false, length_over d a.at (a.start ∷ []), length-set d a.at a.start)))
    ∙ over_twice d a.at (a.at + 1) (a.start ∷ []) (a.end ∷ []) (omega arith)

pub returns-else-at-marks : goal.returns-else-at-marks
returns-else-at-marks c =
    let a = c.args in
    sym (over_beyond a.marks.now a.at (a.start ∷ a.end ∷ []) c.if-at-marks.false)
