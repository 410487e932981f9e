-- `loose::symbolic` meets its contract: the path starts and ends where the two searches end, and the table's classes are the paper's.
use mathlib.Core.Path.{◌∙◌}
use mathlib.Core.Bool.{not}
use Prim.Native.Nat.{◌+◌}
use native.Mathlib.Omega.{arith}
use lib.ListN.{drop}
use borrow.Author.Rules.{rules}
use borrow.Author.Tests.{tests}
use Rattle.class.specs.Class.{paper, classes_of}
use Rattle.class.proofs.Classes.{by_paper}
use Rattle.loose.specs.Loose.{is_space, ends_path, path_len}
use Rattle.loose.proofs.Contents.{by_places}
use Rattle.loose.proofs.symbolic.Goals as goal

pub overflow_sub-len : goal.overflow_sub-len
overflow_sub-len c = omega (arith, c.first-end.ensures (λ b. not (ends_path (classes_of c.table-t.result) b)) (λ b passes k. search (rules, tests)))

pub returns-then-not-is_valid : goal.returns-then-not-is_valid
returns-then-not-is_valid c =
    let s = c.args.content.now in
    let from = c.first-from.ensures is_space (λ b passes k. search (rules, tests)) in
    let end = c.first-end.ensures (λ b. not (ends_path (classes_of c.table-t.result) b)) (λ b passes k. search (rules, tests)) in
    let on_paper = by_paper (λ byte. c.first-from.result + path_len byte (drop c.first-from.result s)) c.table-t.ensures in
    rw (by_places paper s from (end ∙ on_paper), ← c.between.ensures, ← c.is_valid.ensures, c.if-not-is_valid.true)

pub returns : goal.returns
returns c =
    let s = c.args.content.now in
    let from = c.first-from.ensures is_space (λ b passes k. search (rules, tests)) in
    let end = c.first-end.ensures (λ b. not (ends_path (classes_of c.table-t.result) b)) (λ b passes k. search (rules, tests)) in
    let on_paper = by_paper (λ byte. c.first-from.result + path_len byte (drop c.first-from.result s)) c.table-t.ensures in
    rw (by_places paper s from (end ∙ on_paper), ← c.between.ensures, ← c.is_valid.ensures, c.if-not-is_valid.false)
