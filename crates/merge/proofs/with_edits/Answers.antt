-- `merge::with_edits` meets its contract: by the header.
use mathlib.Core.Path.{sym, ap, ◌∙◌}
use lib.ListN.{length}
use Rattle.class.specs.Class.{paper}
use Rattle.merge.specs.Override.{edits_at}
use Rattle.merge.specs.Merge.{new_file, output_by, old_entries}
use Rattle.merge.proofs.Ready.{bad_header, old_entries_lem, good_header}
use Rattle.std.proofs.lemmas.Result.{err_from_is_err_and}
use Rattle.std.specs.declared.result.Result.TheVariants.{Err}
use Rattle.merge.proofs.with_edits.Goals as goal

pub returns : goal.returns
returns c =
    let a = c.args in
    let edits = edits_at a.n a.list.now a.index.now in
    let is = sym c.«open».ensures ∙ c.in_ok-header.was in
    let olds = old_entries_lem paper a.n a.old.now edits (length a.out.now) c.in_ok-header.header is in
    record {
      value = c.behind_header.ensures.value ∙ sym (good_header paper a.n a.old.now edits (length a.out.now) c.in_ok-header.header is);
      out_after = c.behind_header.ensures.out_after ∙ ap (λ olds. output_by (new_file olds edits) a.out.now c.behind_header.result) (sym olds);
    }

pub returns-in_err-header : goal.returns-in_err-header
returns-in_err-header c =
    let a = c.args in
    let edits = edits_at a.n a.list.now a.index.now in
    let is = sym c.«open».ensures ∙ c.in_err-header.was in
    let (why, answer, reason) = err_from_is_err_and c.from_residual.result c.from_residual.ensures.1 in
    let refused = answer ∙ ap Err reason in
    record {
      value = refused ∙ sym (bad_header paper a.n a.old.now edits (length a.out.now) c.in_err-header.field-0.0.text is);
      out_after = ap (output_by (new_file (old_entries paper a.n a.old.now) edits) a.out.now) (sym refused);
    }
