-- An iteration that is one value goes through the walks, or with a prefix through the steps with one, stays at its end, and stays where it was on a refusal.
use mathlib.Core.Path.{◌≡◌, refl, sym, ap, ◌∙◌}
use mathlib.Core.Bool.{Bool, true, false}
use mathlib.Core.List.{List, [], ◌∷◌}
use mathlib.Core.Option.{Option, some}
use Prim.Native.Nat.{ℕ, zero, suc, ◌+◌, ◌-◌}
use native.Mathlib.Omega.{arith}
use lib.Dec.{ltb}
use lib.ListN.{length, take, drop}
use Rattle.class.specs.Class.{paper}
use Rattle.parse.specs.Choice.{if}
use Rattle.parse.specs.Limit.{admit}
use Rattle.compare.specs.Prefix.{begins}
use Rattle.decode.specs.declared.reference.Record.{Record}
use Rattle.decode.specs.Record.{record_of}
use Rattle.line_number.specs.LineNumber.{line_feeds}
use Rattle.iter.specs.declared.step.Step.{Step}
use Rattle.iter.specs.declared.step.Step.TheVariants.{End, Good, Error}
use Rattle.iter.specs.Items.{name_in}
use Rattle.iter.specs.Step.{step_by, step_of, step_answer}
use Rattle.walker.specs.Walk.{next_of, handed_on}
use Rattle.iter.proofs.Steps.{step_end}
use Rattle.handed.specs.Handed.{line_or0, line_on}
use Rattle.handed.specs.Iteration.{iterate}
use Rattle.handed.proofs.Iterations.{hands_out}
use Rattle.iterator.specs.declared.Iter.{Iter}
use Rattle.iterator.specs.Next.{step_with, taken, answer_of, next_of_both, next_iter}
use Rattle.iterator.specs.Iteration.{line_with, line_of, iterate_by, iterate_from, admission_of, GoesOn}
use Rattle.std.specs.declared.result.Result.{Result}
use Rattle.std.specs.declared.result.Result.TheVariants.{Err, Ok}
use Rattle.decode.specs.declared.reference.Fault.{Fault}
use Rattle.parse.specs.declared.limit.NotAdmitted.{NotAdmitted}
use Rattle.parse.specs.declared.limit.NotAdmitted.TheVariants.{TooLarge, UnknownKind}

-- ---- the walk and the step with a prefix are the step on the line, if it is known

tells : (kind : ℕ) (prefix s : List ℕ) (place line : ℕ) → (step_with kind prefix s place line).answer ≡ step_answer kind prefix s place (line_or0 (line_with prefix line))
tells kind [] s place line = refl
tells kind (b ∷ prefix) s place line = refl

-- the line behind a step
abbrev onward : List ℕ → ℕ → Option ℕ → Step → Option ℕ
onward s place line (End next) = line
onward s place line (Good r next) = line_on line (line_feeds (take (next - place) (drop place s)))
onward s place line (Error f told text next) = line_on line (line_feeds (take (next - place) (drop place s)))

handed_on_lem : (kind : ℕ) (prefix s : List ℕ) (place line : ℕ) (w : Step) → (step_with kind prefix s place line).answer ≡ Ok w
    → line_with prefix (step_with kind prefix s place line).line ≡ onward s place (line_with prefix line) w
handed_on_lem kind [] s place line (End next) q = ap (λ a. some (handed_on s place line a)) q
handed_on_lem kind [] s place line (Good r next) q = ap (λ a. some (handed_on s place line a)) q
handed_on_lem kind [] s place line (Error f told text next) q = ap (λ a. some (handed_on s place line a)) q
handed_on_lem kind (b ∷ prefix) s place line (End next) q = refl
handed_on_lem kind (b ∷ prefix) s place line (Good r next) q = refl
handed_on_lem kind (b ∷ prefix) s place line (Error f told text next) q = refl

module _ (it : Iter) where
  -- with a known kind and inputs within the limit the answer is that step
  answered : (n : ℕ) → admission_of it ≡ Ok n → answer_of it ≡ Ok (step_of paper n it.prefix.now it.s.now it.place (line_or0 (line_of it)))
  unfolding step_answer
  answered n e =
      tells it.kind it.prefix.now it.s.now it.place it.line
      ∙ ap (λ a. admit a (λ n. Ok (step_of paper n it.prefix.now it.s.now it.place (line_or0 (line_of it)))) (Err UnknownKind) (Err TooLarge)) e

  module _ (w : Step) (q : answer_of it ≡ Ok w) where
    -- where it leaves the iteration
    next_place : (next_iter it).place ≡ next_of w
    next_place = ap (λ a. (next_of_both it.place it.line (taken it).line a).0) q

    next_line : line_of (next_iter it) ≡ onward it.s.now it.place (line_of it) w
    next_line =
        ap (λ a. line_with it.prefix.now (next_of_both it.place it.line (taken it).line a).1) q
        ∙ handed_on_lem it.kind it.prefix.now it.s.now it.place it.line w q

on : (n turns : ℕ) (it : Iter) → admission_of it ≡ Ok n → iterate_from n turns it ≡ iterate paper n it.prefix.now it.s.now turns it.place (line_of it)
unfolding iterate
on n zero it e = refl
on n (suc turns) it e =
    let w = step_of paper n it.prefix.now it.s.now it.place (line_or0 (line_of it)) in
    let q = answered it n e in
    go w refl q (next_line it w q) (on n turns (next_iter it) e ∙ (λ i. iterate paper n it.prefix.now it.s.now turns (next_place it w q i) (next_line it w q i)))
  where
    go : (w : Step) → step_of paper n it.prefix.now it.s.now it.place (line_or0 (line_of it)) ≡ w → answer_of it ≡ Ok w
        → line_of (next_iter it) ≡ onward it.s.now it.place (line_of it) w
        → iterate_from n turns (next_iter it) ≡ iterate paper n it.prefix.now it.s.now turns (next_of w) (onward it.s.now it.place (line_of it) w)
        → iterate_by n it (iterate_from n turns (next_iter it)) (answer_of it) ≡ iterate paper n it.prefix.now it.s.now (suc turns) it.place (line_of it)
    go (End next) p q left rest = ap (iterate_by n it (iterate_from n turns (next_iter it))) q ∙ rw (left, p, iterate)
    go (Good r next) p q left rest = rw (rest, q, p, iterate)
    go (Error f told text next) p q left rest = rw (rest, q, p, iterate)

-- an end gives the length as next place
end_is : (n : ℕ) (prefix s : List ℕ) (place line next : ℕ) → step_of paper n prefix s place line ≡ End next → length s ≡ next
unfolding step_of
end_is n prefix s place line next e = by (ltb place (length s)) (record_of paper n (drop place s)) e
  where
    wanted : (b : Bool) (r : Record) → if b (Good r (place + r.size)) (End (length s)) ≡ End next → length s ≡ next
    wanted true r q = absurd (let z : ◌≡◌ {A = ℕ} 0 1 = cc in omega arith)
    wanted false r q = cc

    by : (b : Bool) (w : Result Record Fault) → if b (step_by n prefix s place line w) (End (length s)) ≡ End next → length s ≡ next
    by true (Ok r) q = wanted (begins prefix (name_in n (Ok r) (drop place s))) r q
    by true (Err f) q = absurd (let z : ◌≡◌ {A = ℕ} 0 1 = cc in omega arith)
    by false w q = cc

ends : (it : Iter) (next : ℕ) → answer_of it ≡ Ok (End next) → answer_of (next_iter it) ≡ Ok (End next)
unfolding step_answer
ends it next q = go (admission_of it) refl (sym (tells it.kind it.prefix.now it.s.now it.place it.line) ∙ q)
  where
    go : (a : Result ℕ NotAdmitted) → admission_of it ≡ a → admit a (λ n. Ok (step_of paper n it.prefix.now it.s.now it.place (line_or0 (line_of it)))) (Err UnknownKind) (Err TooLarge) ≡ Ok (End next)
        → answer_of (next_iter it) ≡ Ok (End next)
    go (Ok n) e d =
        let p : length it.s.now ≡ next = end_is n it.prefix.now it.s.now it.place (line_or0 (line_of it)) next cc in
        let at : (next_iter it).place ≡ next = next_place it (End next) q in
        answered (next_iter it) n e
        ∙ ap Ok (step_end paper n it.prefix.now it.s.now (next_iter it).place (line_or0 (line_of (next_iter it))) (omega (arith, p, at)) ∙ ap End p)
    go (Err UnknownKind) e d = absurd (let z : ◌≡◌ {A = ℕ} 0 1 = cc in omega arith)
    go (Err TooLarge) e d = absurd (let z : ◌≡◌ {A = ℕ} 0 1 = cc in omega arith)

pub goes_on : (it : Iter) → GoesOn it
goes_on it = record {
  on = λ n turns e. on n turns it e;
  all = λ n turns e enough. on n turns it e ∙ (hands_out paper n it.prefix.now it.s.now it.place (line_of it)).all turns enough;
  ends = ends it;
  unknown = λ q. rw q;
  large = λ q. rw q;
}
