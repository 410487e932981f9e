-- `parse::part::between` meets its contract.
use mathlib.Core.Path.{◌≡◌, sym, ◌∙◌}
use Prim.Native.Nat.{◌-◌, ◌≤◌}
use native.Mathlib.Omega.{arith}
use lib.ListN.{length, drop, length-drop, drop_of_length-le}
use lib.Seq.{take_all, take-nil}
use Rattle.parse.proofs.part.between.Goals as goal

pub returns-then-to-from : goal.returns-then-to-from
returns-then-to-from c =
    let a = c.args in
    let z : a.to - a.from ≡ 0 = omega arith in
    rw z

pub returns-then-from-s : goal.returns-then-from-s
returns-then-from-s c =
    let a = c.args in
    let d = drop a.from a.s.now in
    let n = length-drop a.from a.s.now in
    take_all (length a.s.now - a.from) d (omega arith) ∙ sym (take_all (a.to - a.from) d (omega arith))

pub returns : goal.returns
returns c =
    let a = c.args in
    let z : length a.s.now ≤ a.from = omega arith in
    rw (drop_of_length-le a.s.now z, take-nil)
