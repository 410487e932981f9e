-- `edits::list::prepare` meets its contract.
use mathlib.Core.Path.{sym, ap, ◌∙◌}
use mathlib.Core.List.{◌++◌}
use native.Mathlib.Omega.{arith}
use lib.ListN.{length, drop}
use borrow.Author.Tests.{ltb-false}
use Rattle.class.specs.Class.{paper}
use Rattle.parse.specs.Limit.{over_limit}
use Rattle.edits.specs.List.{edits_of, places_of, in_order, twins_of}
use Rattle.edits.proofs.Ordering.{front, behind}
use Rattle.edits.proofs.Outcomes.{counted_count, comes_large, comes_bad, comes_short, comes_ready}
use Rattle.std.proofs.lemmas.Result.{err_from_is_err_and}
use Rattle.std.specs.declared.result.Result.TheVariants.{Err}
use Rattle.edits.proofs.list.prepare.Goals as goal

pub returns-then-over_limit : goal.returns-then-over_limit
returns-then-over_limit c =
    let t = comes_large paper c.args.n c.args.list.now c.args.index.now (sym c.over_limit.ensures ∙ c.if-over_limit.true) in
    record { value = t.0; index_after = t.1 }

pub returns-then-index-k : goal.returns-then-index-k
returns-then-index-k c =
    let within = sym c.over_limit.ensures ∙ c.if-over_limit.false in
    let number_is = sym c.count.ensures ∙ c.in_ok-k.was in
    let t = comes_short paper c.args.n c.args.list.now c.args.index.now within c.in_ok-k.k number_is c.if-index-k.true in
    record { value = t.0; index_after = t.1 }

pub fill-requires : goal.fill-requires
unfolding over_limit
fill-requires c =
    let within = sym c.over_limit.ensures ∙ c.if-over_limit.false in
    let number_is = sym c.count.ensures ∙ c.in_ok-k.was in
    let whole = counted_count (edits_of paper c.args.n c.args.list.now) c.in_ok-k.k number_is in
    (omega (arith, ltb-false 1073741824 (length c.args.list.now) within), whole.2, omega (arith, whole.1))

pub returns-in_err-k : goal.returns-in_err-k
returns-in_err-k c =
    let within = sym c.over_limit.ensures ∙ c.if-over_limit.false in
    let (why, is, q) = err_from_is_err_and c.from_residual.result c.from_residual.ensures.1 in
    let t = comes_bad paper c.args.n c.args.list.now c.args.index.now within c.in_err-k.field-0.0 (sym c.count.ensures ∙ c.in_err-k.was) in
    record { value = is ∙ ap Err q ∙ t.0; index_after = t.1 }

pub returns : goal.returns
returns c =
    let within = sym c.over_limit.ensures ∙ c.if-over_limit.false in
    let k = c.in_ok-k.k in
    let list = c.args.list.now in
    let index = c.args.index.now in
    let filled = c.fill.new.index in
    let number_is = sym c.count.ensures ∙ c.in_ok-k.was in
    let places = places_of (edits_of paper c.args.n list) in
    let places_are = (counted_count (edits_of paper c.args.n list) k number_is).1 in
    let in_front = front places index filled k c.fill.ensures places_are c.if-index-k.false in
    let left = behind places index filled k c.fill.ensures places_are c.if-index-k.false in
    let ready = comes_ready paper c.args.n list index within k number_is c.if-index-k.false in
    record {
      value = c.put_in_order.ensures.value ∙ ap (λ l. twins_of list k (in_order list l)) in_front ∙ ready.0;
      index_after =
          c.put_in_order.ensures.index_after
          ∙ ap (λ l. in_order list l ++ drop k filled) in_front
          ∙ ap (λ l. in_order list places ++ l) left
          ∙ ready.1;
    }
