-- `ask::ask_body` meets its contract: what the items from the place reached on come to decides the whole.
use mathlib.Core.Path.{◌≡◌, refl, sym, ap, ◌∙◌}
use mathlib.Core.Bool.{Bool, true, false}
use mathlib.Core.List.{List}
use Prim.Native.Nat.{ℕ, ◌+◌, ◌-◌, ◌≤◌}
use native.Mathlib.Numerals.{add-one}
use native.Mathlib.Omega.{arith}
use lib.ListN.{length, take, drop}
use Rattle.class.specs.Class.{paper}
use Rattle.compare.specs.Prefix.{same}
use Rattle.decode.specs.declared.reference.Record.{Record}
use Rattle.checks.specs.Check.{judge_from, judge_body, count_before}
use Rattle.ask.specs.declared.Told.TheVariants.{Charted}
use Rattle.ask.specs.Ask.{sought_from, told_of, ask_body}
use Rattle.iter.proofs.ItemRead.{goes_on, named, named_is}
use Rattle.checks.proofs.CheckTurns.{Spot, spot, turn_at, Turned, turned, judged_after, before_is}
use Rattle.ask.proofs.Seeking.{ask_from, ask_at, ask_turn, ask_end, ask_found, ask_on}
use borrow.Author.Rules.{rules}
use Rattle.ask.proofs.ask_body.Goals as goal
use Rattle.ask.specs.declared.Found.{Found}
use Rattle.checks.specs.declared.Refusal.{Refusal}
use Rattle.std.specs.declared.option.Option.{Option}
use Rattle.std.specs.declared.option.Option.TheVariants.{Some}
use Rattle.std.specs.declared.result.Result.{Result}
use Rattle.std.specs.declared.result.Result.TheVariants.{Ok}

-- a turn that told a record
module _ {n : ℕ} {file : List ℕ} {place : ℕ} (last : List ℕ) {t : Result (Option Record) Refusal} {x : Option Record} {r : Record} where
  turned_on : t ≡ turn_at (spot n file place last) → t ≡ Ok x → x ≡ Some r → Turned (spot n file place last) (Ok (Some r))
  turned_on e is some = turned (spot n file place last) t (Ok (Some r)) e (is ∙ ap Ok some)

module _ (s : Spot) (name : List ℕ) (count : ℕ) where
  -- where the check ends at a fault, what is sought from there on decides
  stopped : {t w : (Result (Option Record) Refusal)} → t ≡ turn_at s → t ≡ w → {x : (Option Found)} → x ≡ sought_from s.byte s.n s.file s.place name
      → told_of x (judged_after s count w) ≡ ask_at s name count
  stopped {t} {w} e is sought =
      ap (λ v. told_of v (judged_after s count w)) sought ∙ sym (ask_turn s name count w (turned s t w e is))

  -- a record was found, and its name was cut out
  module _ {r : Record} (k : Turned s (Ok (Some r))) where
    -- no more records than bytes have passed
    few : count ≤ s.place → count + 1 ≤ s.place + r.size
    few h = omega (arith, goes_on k.0, h)

    module _ {x : List ℕ} {is : Bool} (cut : x ≡ take r.name_len (drop (s.n + 1) (take (length s.file - s.place) (drop s.place s.file)))) (i : is ≡ same name x) where
      wanted : {b : Bool} → is ≡ b → same name (named k.0) ≡ b
      wanted e = ap (same name) (sym (named_is k.0 cut)) ∙ sym i ∙ e

      found : count ≤ s.place → is ≡ true → {v : (Result ℕ Refusal)} → v ≡ judge_from s.byte s.n s.file (s.place + r.size) (count_before (count + 1) (s.place + r.size)) x
          → Charted s.place r v ≡ ask_at s name count
      found h e v =
          ap (Charted s.place r)
          (v ∙ ap (λ (n : ℕ). judge_from s.byte s.n s.file (s.place + r.size) n x) (before_is (count + 1) (s.place + r.size) (few h) ∙ add-one count))
          ∙ sym (ask_found s name count r k x (named_is k.0 cut) (wanted e))

      other : is ≡ false → ask_at s name count ≡ ask_from s.byte s.n s.file name (s.place + r.size) (count + 1) x
      other e = rw add-one (ask_on s name count r k x (named_is k.0 cut) (wanted e))

pub loop-found-init : goal.loop-found-init
unfolding ask_body judge_body
loop-found-init c = (search rules, refl)

pub returns-in-Ok-None : goal.returns-in-Ok-None
returns-in-Ok-None c =
    let a = c.args in let l = c.loop-found in
    let s = spot a.n a.file.now l.place l.last.now in
    sym (ask_end s a.name.now l.count (turned s _ _ c.take_turn.ensures (c.in-Ok-None.is ∙ ap Ok c.in-Ok-None.field-0-is))) ∙ l.invariant.1

pub returns-in-Err : goal.returns-in-Err
returns-in-Err c =
    let a = c.args in let l = c.loop-found in
    let s = spot a.n a.file.now l.place l.last.now in
    c.tell.ensures
    ∙ ap (told_of c.first_named-sought.result) c.refused.ensures
    ∙ stopped s a.name.now l.count c.take_turn.ensures c.in-Err.is c.first_named-sought.ensures
    ∙ l.invariant.1

pub slice_bounds-name_of-count : goal.slice_bounds-name_of-count
slice_bounds-name_of-count c = omega (arith, (turned_on _ c.take_turn.ensures c.in-Ok-Some.is c.in-Ok-Some.field-0-is).0.inside)

pub slice_bounds-name_of-start : goal.slice_bounds-name_of-start
slice_bounds-name_of-start c = omega (arith, (turned_on _ c.take_turn.ensures c.in-Ok-Some.is c.in-Ok-Some.field-0-is).0.inside)

pub overflow_add-count : goal.overflow_add-count
overflow_add-count c =
    omega (arith, goes_on (turned_on _ c.take_turn.ensures c.in-Ok-Some.is c.in-Ok-Some.field-0-is).0, c.loop-found.invariant.0, c.well_formed)

pub overflow_add-next : goal.overflow_add-next
overflow_add-next c = omega (arith, goes_on (turned_on _ c.take_turn.ensures c.in-Ok-Some.is c.in-Ok-Some.field-0-is).0, c.well_formed)

pub returns-then-is_same : goal.returns-then-is_same
returns-then-is_same c =
    let a = c.args in let l = c.loop-found in
    let k = turned_on _ c.take_turn.ensures c.in-Ok-Some.is c.in-Ok-Some.field-0-is in
    found _ a.name.now l.count k c.name_of-last.ensures c.is_same.ensures l.invariant.0 c.if-is_same.true c.check_from-verdict.ensures ∙ l.invariant.1

pub loop-found-smaller : goal.loop-found-smaller
loop-found-smaller c = omega (arith, goes_on (turned_on _ c.take_turn.ensures c.in-Ok-Some.is c.in-Ok-Some.field-0-is).0)

pub loop-found-preserved : goal.loop-found-preserved
loop-found-preserved c =
    let a = c.args in let l = c.loop-found in
    let k = turned_on _ c.take_turn.ensures c.in-Ok-Some.is c.in-Ok-Some.field-0-is in (
      few _ a.name.now l.count k l.invariant.0,
      sym (other _ a.name.now l.count k c.name_of-last.ensures c.is_same.ensures c.if-is_same.false) ∙ l.invariant.1,
    )
