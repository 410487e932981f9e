-- `runs::settle` meets its contract: the edits up to the first of a greater name are settled, one after another.
use mathlib.Core.Path.{◌≡◌, ap}
use mathlib.Core.List.{List}
use Prim.Native.Nat.{ℕ, ◌<◌, ◌≤◌}
use native.Mathlib.Omega.{arith}
use lib.ListN.{length, drop}
use Rattle.compare.specs.Order.{order_of}
use Rattle.parts.specs.Parts.{edit_name}
use Rattle.runs.specs.Runs.{Run, settles}
use Rattle.runs.proofs.Marks.{ends, ends_with, goes_on, settles_end, settles_less, settles_equal, settles_greater}
use borrow.Author.Rules.{rules}
use Rattle.runs.proofs.settle.Goals as goal
use Rattle.std.specs.declared.cmp.Ordering.{Ordering}

abbrev left : List ℕ → List ℕ → List ℕ → ℕ → ℕ → ℕ → List Run
left list index name place next j = settles list name place next (drop j index)

-- the order that the turn finds is the order of the names
ordered : (list name : List ℕ) (p : ℕ) (other : List ℕ) (o w : Ordering) → other ≡ edit_name list p → o ≡ order_of name other → o ≡ w
    → order_of name (edit_name list p) ≡ w
ordered list name p other o w e f g = cc

pub returns-in-Less : goal.returns-in-Less
returns-in-Less c =
    let a = c.args in
    let l = c.loop-j in
    let inside : l.j < length a.index.now = search rules in
    let order = ordered a.list.now a.name.now _ _ _ _ c.edit_name.ensures c.compare.ensures c.in-Less.is in
    let none = settles_less a.list.now a.index.now a.name.now a.place a.next l.j inside order in
    let end = ends (left a.list.now a.index.now a.name.now a.place a.next) a.from a.marks.now l.j l.marks l.invariant none in
    record { value = end.0; marks_after = end.1 }

pub returns-in-Equal : goal.returns-in-Equal
returns-in-Equal c =
    let a = c.args in
    let l = c.loop-j in
    let inside : l.j < length a.index.now = search rules in
    let order = ordered a.list.now a.name.now _ _ _ _ c.edit_name.ensures c.compare.ensures c.in-Equal.is in
    let one = settles_equal a.list.now a.index.now a.name.now a.place a.next l.j inside order in
    let end =
    ends_with (left a.list.now a.index.now a.name.now a.place a.next) a.from a.marks.now l.j l.marks l.invariant a.place a.next _ c.mark.ensures one
    in
    record { value = end.0; marks_after = end.1 }

pub loop-j-preserved : goal.loop-j-preserved
loop-j-preserved c =
    let a = c.args in
    let l = c.loop-j in
    let inside : l.j < length a.index.now = search rules in
    let order = ordered a.list.now a.name.now _ _ _ _ c.edit_name.ensures c.compare.ensures c.in-Greater.is in
    let more = settles_greater a.list.now a.index.now a.name.now a.place a.next l.j inside order in
    goes_on (left a.list.now a.index.now a.name.now a.place a.next) a.from a.marks.now l.j l.marks l.invariant a.place a.place _
    c.mark-in-Greater.ensures more

pub returns : goal.returns
returns c =
    let a = c.args in
    let l = c.loop-j in
    let none = settles_end a.list.now a.index.now a.name.now a.place a.next l.j c.loop-j-test.false in
    let end = ends (left a.list.now a.index.now a.name.now a.place a.next) a.from a.marks.now l.j l.marks l.invariant none in
    -- where the entry lies behind the index, none is settled
    let behind = λ (h : length a.index.now ≤ a.from). ap length (settles_end a.list.now a.index.now a.name.now a.place a.next a.from h) in
    record { value = grind (arith, c.max.ensures, end.0, behind, l.auto.j-end); marks_after = end.1 }
