-- `edits::list::count` meets its contract: the edits from the place reached on, counted after those before, decide the whole.
use mathlib.Core.Path.{◌≡◌, refl, sym, ap, ◌∙◌}
use mathlib.Core.List.{List}
use Prim.Native.Nat.{ℕ, suc, ◌+◌, ◌-◌, ◌<◌}
use native.Mathlib.Omega.{arith}
use lib.ListN.{length, take, drop}
use Rattle.class.specs.Class.{paper}
use Rattle.parse.proofs.Slices.{rest_is}
use Rattle.edit.specs.Edit.{edit_of}
use Rattle.edits.specs.List.{Listed, edits_from, edits_of, counted}
use Rattle.edit.proofs.Parts.{edit_goes_on}
use Rattle.edits.proofs.Lists.{from_end, from_many, from_bad, from_good, counted_onto, read_well, read_badly}
use borrow.Author.Rules.{rules}
use Rattle.std.proofs.lemmas.Result.{err_from_is_err_and}
use Rattle.edits.proofs.list.count.Goals as goal
use Rattle.std.specs.declared.result.Result.{Result}
use Rattle.std.specs.declared.result.Result.TheVariants.{Ok, Err}
use Rattle.edit.specs.declared.EditFault.{EditFault}

-- what the list is from a place on decides the whole
decides : (n : ℕ) (list : List ℕ) (count place : ℕ) {x : Listed}
    → counted count (edits_from paper n list (4096 - count) place) ≡ counted 0 (edits_of paper n list)
    → edits_from paper n list (4096 - count) place ≡ x → counted count x ≡ counted 0 (edits_of paper n list)
decides n list count place h e = sym (ap (counted count) e) ∙ h

-- one turn is taken of those that are left
fewer : (n : ℕ) (list : List ℕ) (count place : ℕ) → count < 4096
    → edits_from paper n list (4096 - count) place ≡ edits_from paper n list (suc (4096 - (count + 1))) place
fewer n list count place h =
    let z : 4096 - count ≡ suc (4096 - (count + 1)) = omega arith in
    ap (λ k. edits_from paper n list k place) z

-- what is read from a place on is the edit that stands there
is_read : (n : ℕ) (list : List ℕ) (place : ℕ) {r : (Result ℕ EditFault)} → r ≡ edit_of paper n (take (length list - place) (drop place list))
    → edit_of paper n (drop place list) ≡ r
is_read n list place e = ap (edit_of paper n) (sym (rest_is list place)) ∙ sym e

pub loop-place-init : goal.loop-place-init
unfolding edits_of
loop-place-init c = (search rules, refl)

pub returns-then-count-ge4096 : goal.returns-then-count-ge4096
returns-then-count-ge4096 c =
    let z : 4096 - c.loop-place.count ≡ 0 = omega arith in
    decides c.args.n c.args.list.now c.loop-place.count c.loop-place.place c.loop-place.invariant.1
    (ap (λ k. edits_from paper c.args.n c.args.list.now k c.loop-place.place) z ∙ from_many paper c.args.n c.args.list.now c.loop-place.place (search rules))

-- what `map_err` leaves of an edit that was read
is_edit : (c : goal.In_ok-size) → edit_of paper c.args.n (drop c.loop-place.place c.args.list.now) ≡ Ok c.in_ok-size.size
is_edit c =
    is_read c.args.n c.args.list.now c.loop-place.place c.read.ensures ∙ read_well c.read.result c.map_err.result _ c.map_err.ensures.cases c.in_ok-size.was

pub overflow_add-place : goal.overflow_add-place
overflow_add-place c = omega (arith, edit_goes_on paper c.args.n c.args.list.now c.loop-place.place c.in_ok-size.size (is_edit c), c.well_formed)

pub loop-place-smaller : goal.loop-place-smaller
loop-place-smaller c = omega (arith, edit_goes_on paper c.args.n c.args.list.now c.loop-place.place c.in_ok-size.size (is_edit c))

pub loop-place-preserved : goal.loop-place-preserved
loop-place-preserved c =
    let n = c.args.n in
    let list = c.args.list.now in
    let place = c.loop-place.place in
    let count = c.loop-place.count in
    let size = c.in_ok-size.size in
    let turns = 4096 - (count + 1) in
    let on = counted_onto count place (edits_from paper n list turns (place + size)) in
    let here = fewer n list count place (omega arith) ∙ from_good paper n list place c.loop-place-test.true turns size (is_edit c) in
    (omega arith, sym on ∙ decides n list count place c.loop-place.invariant.1 here)

pub returns-in_err-size : goal.returns-in_err-size
returns-in_err-size c =
    let n = c.args.n in
    let list = c.args.list.now in
    let place = c.loop-place.place in
    let count = c.loop-place.count in
    let (fault, bad, why) = read_badly c.read.result c.map_err.result place _ (λ f w q. search rules) c.map_err.ensures.cases c.in_err-size.was in
    let is_edit = is_read n list place c.read.ensures ∙ bad in
    let here = fewer n list count place (omega arith) ∙ from_bad paper n list place c.loop-place-test.true (4096 - (count + 1)) is_edit in
    let (handed, is, q) = err_from_is_err_and c.from_residual.result c.from_residual.ensures.1 in
    is ∙ ap Err (q ∙ why) ∙ decides n list count place c.loop-place.invariant.1 here

pub returns : goal.returns
returns c =
    let z : c.loop-place.count ≡ c.loop-place.count + 0 = omega arith in
    ap Ok z
    ∙ decides c.args.n c.args.list.now c.loop-place.count c.loop-place.place c.loop-place.invariant.1
    (from_end paper c.args.n c.args.list.now c.loop-place.place (4096 - c.loop-place.count) c.loop-place-test.false)
