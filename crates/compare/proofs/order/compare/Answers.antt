-- `compare::order::compare` meets its contract: as long as the numbers of eight bytes are the same, the two are alike up to i; the first numbers that
-- differ tell the order, and where none do, the lengths.
use mathlib.Core.Path.{◌≡◌, sym, ap₂, ◌∙◌}
use mathlib.Core.List.{List}
use Prim.Native.Nat.{ℕ, ◌+◌, ◌-◌, ◌≤◌, ◌<◌}
use native.Mathlib.Omega.{arith}
use borrow.Author.Count.{below_none}
use lib.ListN.{get_or, length, drop}
use Rattle.std.specs.Ordering.{nat_cmp}
use Rattle.std.specs.declared.cmp.Ordering.{Ordering}
use Rattle.word.specs.Number.{Bytes, number_at}
use Rattle.compare.specs.Order.{order_of}
use Rattle.compare.proofs.Below.{below_join}
use Rattle.compare.proofs.ByNumber.{AlikeTo, order_behind, order_by_numbers, eight_same}
use Rattle.compare.proofs.Orders.{both_end, first_ends, second_ends}
use borrow.Author.Rules.{rules}
use Rattle.compare.proofs.order.compare.Goals as goal

-- alike up to i, and the last eight that both have are the same: then what follows them decides, which is nothing of the shorter one
end_tells : (a b : List ℕ) (i end : ℕ) {o : Ordering} → Bytes a → Bytes b → AlikeTo a b i → 8 ≤ end → end < i + 8 → end ≤ length a → end ≤ length b
    → number_at a (end - 8) ≡ number_at b (end - 8) → order_of (drop end a) (drop end b) ≡ o → o ≡ order_of a b
end_tells a b i end p q alike long near h g e told =
    let same = eight_same a b (end - 8) (omega arith) (omega arith) p q e in
    let all = below_join (λ k. get_or a k 0 ≡ get_or b k 0) i (end - 8) 8 (omega arith) alike same in
    sym told ∙ order_behind a b end h g (λ k l. all k (omega arith))

pub returns-then-l-lt8 : goal.returns-then-l-lt8
returns-then-l-lt8 c = c.by_one.ensures

pub loop-i-init : goal.loop-i-init
loop-i-init c = (search rules, below_none _)

pub returns-then-u-v : goal.returns-then-u-v
returns-then-u-v c =
    let s = c.args in
    let p : Bytes s.a.now = λ k. omega (arith, c.type_inv.a k) in
    let q : Bytes s.b.now = λ k. omega (arith, c.type_inv.b k) in
    c.cmp.ensures
    ∙ ap₂ nat_cmp c.number-u.ensures c.number-v.ensures
    ∙ order_by_numbers s.a.now s.b.now c.loop-i.i (omega arith) (omega arith) p q c.loop-i.invariant.1
    (λ e. c.if-u-v.true (c.number-u.ensures ∙ e ∙ sym c.number-v.ensures))

pub loop-i-preserved : goal.loop-i-preserved
loop-i-preserved c =
    let s = c.args in
    let p : Bytes s.a.now = λ k. omega (arith, c.type_inv.a k) in
    let q : Bytes s.b.now = λ k. omega (arith, c.type_inv.b k) in
    let same = eight_same s.a.now s.b.now c.loop-i.i (omega arith) (omega arith) p q (omega arith) in
    (omega arith, below_join (λ k. get_or s.a.now k 0 ≡ get_or s.b.now k 0) c.loop-i.i c.loop-i.i 8 (omega arith) c.loop-i.invariant.1 same)

-- the last eight: alike up to them, and where their numbers are the same, up to their end
pub returns-then-p-q : goal.returns-then-p-q
returns-then-p-q c =
    let s = c.args in
    let end = c.min-l.result in
    let p : Bytes s.a.now = λ k. omega (arith, c.type_inv.a k) in
    let q : Bytes s.b.now = λ k. omega (arith, c.type_inv.b k) in
    c.cmp-then-p-q.ensures
    ∙ ap₂ nat_cmp c.number-p.ensures c.number-q.ensures
    ∙ order_by_numbers s.a.now s.b.now (end - 8) (omega arith) (omega arith) p q (λ k h. c.loop-i.invariant.1 k (omega arith))
    (λ e. c.if-p-q.true (c.number-p.ensures ∙ e ∙ sym c.number-q.ensures))

pub returns-then-m-n : goal.returns-then-m-n
returns-then-m-n c =
    let s = c.args in
    let end = c.min-l.result in
    end_tells s.a.now s.b.now c.loop-i.i end (λ k. omega (arith, c.type_inv.a k)) (λ k. omega (arith, c.type_inv.b k)) c.loop-i.invariant.1 (omega arith) (omega arith)
    (omega arith) (omega arith) (omega arith) (first_ends s.a.now s.b.now end (omega arith) (omega arith))

pub returns-then-n-m : goal.returns-then-n-m
returns-then-n-m c =
    let s = c.args in
    let end = c.min-l.result in
    end_tells s.a.now s.b.now c.loop-i.i end (λ k. omega (arith, c.type_inv.a k)) (λ k. omega (arith, c.type_inv.b k)) c.loop-i.invariant.1 (omega arith) (omega arith)
    (omega arith) (omega arith) (omega arith) (second_ends s.a.now s.b.now end (omega arith) (omega arith))

pub returns : goal.returns
returns c =
    let s = c.args in
    let end = c.min-l.result in
    end_tells s.a.now s.b.now c.loop-i.i end (λ k. omega (arith, c.type_inv.a k)) (λ k. omega (arith, c.type_inv.b k)) c.loop-i.invariant.1 (omega arith) (omega arith)
    (omega arith) (omega arith) (omega arith) (both_end s.a.now s.b.now end (omega arith) (omega arith))
