-- `ask::first_named` meets its contract: what is sought from the place reached on decides the whole.
use mathlib.Core.Path.{◌≡◌, refl, sym, ap, ◌∙◌}
use mathlib.Core.Bool.{Bool}
use mathlib.Core.List.{List}
use Prim.Native.Nat.{ℕ, ◌+◌, ◌-◌}
use native.Mathlib.Omega.{arith}
use lib.ListN.{length, take, drop, length-drop}
use Rattle.class.specs.Class.{Classes, paper}
use Rattle.compare.specs.Prefix.{same}
use Rattle.parse.proofs.Fronts.{line_len_some}
use Rattle.decode.specs.declared.reference.Record.{Record}
use Rattle.iter.proofs.ItemRead.{Reads, reads, told, goes_on, named, named_is}
use Rattle.ask.proofs.Seeking.{seek_end, seek_bad, seek_found, seek_other}
use borrow.Author.Rules.{rules}
use Rattle.ask.proofs.first_named.Goals as goal
use Rattle.std.specs.declared.result.Result.TheVariants.{Ok}

-- a record's name was cut out and compared with the wanted one
wanted : {byte : Classes} {n : ℕ} {file : List ℕ} {place : ℕ} (name : List ℕ) {r : Record} (k : Reads byte n file place (Ok r)) {x : List ℕ} {is b : Bool}
    → x ≡ take r.name_len (drop (n + 1) (take (length file - place) (drop place file))) → is ≡ same name x → is ≡ b → same name (named k) ≡ b
wanted name k cut i e = ap (same name) (sym (named_is k cut)) ∙ sym i ∙ e

pub loop-place-init : goal.loop-place-init
loop-place-init c = refl

pub loop-place-smaller-in-Err : goal.loop-place-smaller-in-Err
loop-place-smaller-in-Err c =
    let file = c.args.file.now in
    omega (arith, c.line_end-place.ensures, line_len_some (drop c.loop-place.place file) (omega (arith, length-drop c.loop-place.place file)))

pub loop-place-preserved-in-Err : goal.loop-place-preserved-in-Err
loop-place-preserved-in-Err c =
    rw c.line_end-place.ensures (sym (seek_bad c.args.name.now (told (reads (search rules) c.reference.ensures) c.in-Err.is)) ∙ c.loop-place.invariant)

pub returns-then-is_same : goal.returns-then-is_same
returns-then-is_same c =
    let k = told (reads {n = c.args.n} {file = c.args.file.now} {place = c.loop-place.place} (search rules) c.reference.ensures) c.in-Ok.is in
    sym (seek_found c.args.name.now k (wanted c.args.name.now k c.name_of.ensures c.is_same.ensures c.if-is_same.true)) ∙ c.loop-place.invariant

pub overflow_add-place : goal.overflow_add-place
overflow_add-place c =
    let k = told (reads {n = c.args.n} {file = c.args.file.now} {place = c.loop-place.place} (search rules) c.reference.ensures) c.in-Ok.is in
    omega (arith, goes_on k, c.well_formed)

pub loop-place-smaller : goal.loop-place-smaller
loop-place-smaller c =
    let k = told (reads {n = c.args.n} {file = c.args.file.now} {place = c.loop-place.place} (search rules) c.reference.ensures) c.in-Ok.is in
    omega (arith, goes_on k)

pub loop-place-preserved : goal.loop-place-preserved
loop-place-preserved c =
    let k = told (reads {n = c.args.n} {file = c.args.file.now} {place = c.loop-place.place} (search rules) c.reference.ensures) c.in-Ok.is in
    sym (seek_other c.args.name.now k (wanted c.args.name.now k c.name_of.ensures c.is_same.ensures c.if-is_same.false)) ∙ c.loop-place.invariant

pub returns : goal.returns
returns c = sym (seek_end paper c.args.n c.args.file.now c.args.name.now c.loop-place.place c.loop-place-test.false) ∙ c.loop-place.invariant
