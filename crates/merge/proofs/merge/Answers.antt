-- `merge::merge` meets its contract: 1 and 17 first.
use mathlib.Core.Path.{sym, ap, ◌∙◌}
use Rattle.std.proofs.lemmas.Result.{err_from_is_err_and}
use Rattle.std.specs.declared.result.Result.TheVariants.{Err}
use Rattle.merge.specs.Merge.{merge_answer, index_answer, output_after}
use Rattle.merge.proofs.Answers.{call_refused, call_leaves}
use Rattle.merge.proofs.merge.Goals as goal

pub returns : goal.returns
unfolding merge_answer index_answer output_after
returns c =
    let is = sym c.admit.ensures ∙ c.in_ok-n.was in
    let inner = c.merge_with_digits.ensures in
    record { value = rw is inner.value; index_after = rw is inner.index_after; out_after = rw is inner.out_after }

pub returns-in_err-n : goal.returns-in_err-n
unfolding merge_answer index_answer output_after
returns-in_err-n c =
    let is = sym c.admit.ensures ∙ c.in_err-n.was in
    let (why, answer, reason) = err_from_is_err_and c.from_residual.result c.from_residual.ensures.1 in
    record {
      value = answer ∙ ap Err reason ∙ sym (call_refused is _);
      index_after = sym (call_leaves is _ _);
      out_after = sym (call_leaves is _ _);
    }
