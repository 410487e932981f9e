-- `merge::behind_header` meets its contract: the file that is spliced from the runs is the new file.
use mathlib.Core.Path.{sym, ap, ◌∙◌}
use Prim.Native.Nat.{◌*◌, ◌≤◌}
use lib.ListN.{length, drop}
use Rattle.class.specs.Class.{paper}
use Rattle.iter.specs.Entries.{entries_of}
use Rattle.iter.specs.Items.{items}
use Rattle.merge.specs.Override.{edits_at}
use Rattle.put.specs.Put.{over}
use Rattle.merge.specs.Merge.{new_file, judged_by, output_by}
use Rattle.runs.specs.Runs.{marks_of}
use Rattle.runs.proofs.RunTurns.{surveyed_body}
use Rattle.merge.proofs.Answers.{old_refused}
use Rattle.merge.proofs.Finished.{finished_is}
use Rattle.merge.proofs.IdleRuns.{idle_is_still}
use Rattle.merge.proofs.NewFile.{spliced_is_new}
use borrow.Author.Rules.{rules}
use Rattle.std.proofs.lemmas.Result.{err_from_is_err_and}
use Rattle.std.specs.declared.result.Result.TheVariants.{Err}
use Rattle.merge.proofs.behind_header.Goals as goal

pub returns : goal.returns
returns c =
    let a = c.args in
    let olds = entries_of a.n (items paper a.n (drop a.body a.old.now)) in
    let edits = edits_at a.n a.list.now a.index.now in
    let clean = sym c.survey.ensures.value ∙ c.in_ok-survey.was in
    let count = c.in_ok-survey.field-0 in
    let fresh = c.no_marks-marks.result in
    let marked = c.survey.new.marks in
    let marks = c.survey.ensures.marks_after
    ∙ ap (λ l. over fresh 0 (marks_of l)) (surveyed_body paper a.n a.old.now a.list.now a.body a.index.now count clean) in
    -- there is a mark for both ends of each run
    let enough : 2 * length a.index.now ≤ length fresh = search rules in
    let new = spliced_is_new a.n a.old.now a.body a.list.now a.index.now fresh marked count clean enough marks in
    let still = idle_is_still a.n a.old.now a.list.now a.body count a.index.now fresh marked clean c.requires.1 enough marks in
    record {
      value =
          c.finish.ensures.value
          ∙ finished_is _ _ olds edits (length a.out.now) still new
          ∙ ap (judged_by olds edits (length a.out.now)) (sym clean);
      out_after = c.finish.ensures.out_after ∙ ap (λ x. output_by x a.out.now c.finish.result) new;
    }

pub returns-in_err-survey : goal.returns-in_err-survey
returns-in_err-survey c =
    let a = c.args in
    let olds = entries_of a.n (items paper a.n (drop a.body a.old.now)) in
    let edits = edits_at a.n a.list.now a.index.now in
    let refused = sym c.survey.ensures.value ∙ c.in_err-survey.was in
    let (why, answer, reason) = err_from_is_err_and c.from_residual.result c.from_residual.ensures.1 in
    let handed = answer ∙ ap Err reason in
    record {
      value = handed ∙ ap (judged_by olds edits (length a.out.now)) (sym refused);
      out_after = sym (old_refused (new_file olds edits) a.out.now c.in_err-survey.field-0.0) ∙ ap (output_by (new_file olds edits) a.out.now) (sym handed);
    }
