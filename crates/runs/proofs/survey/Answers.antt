-- `runs::survey` meets its contract: the check goes as in `checks`, and beside it each record settles its edits.
use mathlib.Core.Path.{◌≡◌, refl, sym, ap, ◌∙◌}
use mathlib.Core.List.{List}
use Prim.Native.Nat.{ℕ, ◌+◌, ◌*◌}
use native.Mathlib.Numerals.{add-one}
use native.Mathlib.Omega.{arith}
use lib.ListN.{length, drop}
use Rattle.class.specs.Class.{paper}
use Rattle.checks.specs.Check.{judge_body}
use Rattle.iter.proofs.ItemRead.{goes_on, named, named_is}
use Rattle.checks.proofs.CheckTurns.{Turned, spot, turned, judged}
use Rattle.put.specs.Put.{over}
use Rattle.runs.specs.Runs.{settles, marks_of}
use Rattle.runs.proofs.RunTurns.{marked_end, marked_stop, marked_on}
use borrow.Author.Rules.{rules}
use Rattle.runs.proofs.survey.Goals.{In-Ok-Some}
use Rattle.runs.proofs.survey.Goals as goal
use Rattle.std.specs.declared.option.Option.TheVariants.{None, Some}
use Rattle.std.specs.declared.result.Result.TheVariants.{Err, Ok}

-- what a turn tells where a record is in order
on : (c : In-Ok-Some) → Turned (spot c.args.n c.args.file.now c.loop-marks.place c.loop-marks.last.now) (Ok (Some c.in-Ok-Some.found))
on c = turned (spot c.args.n c.args.file.now c.loop-marks.place c.loop-marks.last.now) _ (Ok (Some c.in-Ok-Some.found)) c.take_turn.ensures (cc)

pub loop-marks-init : goal.loop-marks-init
unfolding judge_body
loop-marks-init c = (search rules, refl, refl)

pub returns-in-Ok-None : goal.returns-in-Ok-None
returns-in-Ok-None c =
    let a = c.args in
    let l = c.loop-marks in
    let s = spot a.n a.file.now l.place l.last.now in
    let told = turned s _ (Ok None) c.take_turn.ensures (cc) in
    let end = marked_end paper a.n a.file.now a.list.now a.index.now l.place l.last.now l.j l.marks told in
    record { value = sym (judged s l.count (Ok None) told) ∙ l.invariant.1; marks_after = c.settle_rest.ensures ∙ sym end ∙ l.invariant.2 }

pub returns-in-Err : goal.returns-in-Err
returns-in-Err c =
    let a = c.args in
    let l = c.loop-marks in
    let why = c.in-Err.why in
    let s = spot a.n a.file.now l.place l.last.now in
    let told = turned s _ (Err why) c.take_turn.ensures c.in-Err.is in
    let stop = marked_stop s a.list.now a.index.now l.j l.marks why told in
    record { value = sym (judged s l.count (Err why) told) ∙ l.invariant.1; marks_after = sym stop ∙ l.invariant.2 }

pub slice_bounds-name_of-count : goal.slice_bounds-name_of-count
slice_bounds-name_of-count c = omega (arith, (on (goal.at.slice_bounds-name_of-count c).In-Ok-Some).0.inside)

pub slice_bounds-name_of-start : goal.slice_bounds-name_of-start
slice_bounds-name_of-start c = omega (arith, (on (goal.at.slice_bounds-name_of-start c).In-Ok-Some).0.inside)

pub overflow_add-next : goal.overflow_add-next
overflow_add-next c = omega (arith, goes_on (on (goal.at.overflow_add-next c).In-Ok-Some).0, c.well_formed)

pub overflow_add-count : goal.overflow_add-count
overflow_add-count c = omega (arith, goes_on (on (goal.at.overflow_add-count c).In-Ok-Some).0, c.loop-marks.invariant.0, c.well_formed)

pub loop-marks-smaller : goal.loop-marks-smaller
loop-marks-smaller c = omega (arith, goes_on (on (goal.at.loop-marks-smaller c).In-Ok-Some).0)

pub loop-marks-preserved : goal.loop-marks-preserved
loop-marks-preserved c =
    let a = c.args in
    let l = c.loop-marks in
    let s = spot a.n a.file.now l.place l.last.now in
    let told = on (goal.at.loop-marks-preserved c).In-Ok-Some in
    let name = named_is told.0 c.name_of-last.ensures in
    let settled = λ (x : List ℕ). settles a.list.now x l.place (l.place + c.in-Ok-Some.found.size) (drop l.j a.index.now) in
    let number : c.settle-j.result ≡ l.j + length (settled (named told.0)) = c.settle-j.ensures.value ∙ ap (λ x. l.j + length (settled x)) name in
    let marks = c.settle-j.ensures.marks_after ∙ ap (λ x. over l.marks (2 * l.j) (marks_of (settled x))) name in (
      omega (arith, goes_on told.0, l.invariant.0),
      rw (add-one, name) (sym (judged s l.count (Ok (Some c.in-Ok-Some.found)) told) ∙ l.invariant.1),
      marked_on paper a.n a.file.now a.list.now a.index.now l.place l.last.now l.j l.marks told.0 told.1 _ name c.settle-j.result c.settle-j.new.marks number
          marks
          ∙ l.invariant.2,
    )
