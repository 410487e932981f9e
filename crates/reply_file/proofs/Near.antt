-- A record that a step tells lies in the lent bytes, which are under the size limit.
use mathlib.Core.Path.{◌≡◌, refl}
use mathlib.Core.Bool.{Bool, true, false}
use mathlib.Core.List.{List}
use Prim.Native.Nat.{ℕ, ◌+◌}
use native.Mathlib.Omega.{arith}
use lib.Dec.{ltb}
use lib.ListN.{length, drop}
use borrow.Author.Tests.{ltb-true}
use Rattle.parse.specs.Choice.{if}
use Rattle.class.specs.Class.{paper}
use Rattle.parse.proofs.Admitted.{admitted, through}
use Rattle.compare.specs.Prefix.{begins}
use Rattle.decode.specs.declared.reference.Record.{Record}
use Rattle.decode.specs.Record.{record_of}
use Rattle.iter.specs.declared.step.Step.TheVariants as step
use Rattle.iter.specs.Items.{name_in}
use Rattle.iter.specs.Step.{step_by, step_of, step_answer}
use Rattle.tell.specs.Told.{Near}
use Rattle.tell.proofs.Near.{Lies, near}
use Rattle.std.specs.declared.result.Result.{Result}
use Rattle.std.specs.declared.result.Result.TheVariants.{Err, Ok}
use Rattle.decode.specs.declared.reference.Fault.{Fault}

module _ (n : ℕ) (prefix s : List ℕ) (place line : ℕ) {r : Record} {next : ℕ} where
  step_by_lem : (w : Result Record Fault) → step_by n prefix s place line w ≡ step.Good r next → w ≡ Ok r
  step_by_lem (Ok q) e = go (begins prefix (name_in n (Ok q) (drop place s))) e
    where
      go : (t : Bool) → if t (step.Good q (place + q.size)) (step.End (length s)) ≡ step.Good r next → ◌≡◌ {A = Result Record Fault} (Ok q) (Ok r)
      go true h = cc
      go false h = absurd (let z : ◌≡◌ {A = ℕ} 0 1 = cc in omega arith)
  step_by_lem (Err f) e = absurd (let z : ◌≡◌ {A = ℕ} 0 1 = cc in omega arith)

  step_read : step_of paper n prefix s place line ≡ step.Good r next → Lies n s place r
  unfolding step_of
  step_read e = go (ltb place (length s)) refl e
    where
      go : (t : Bool) → ltb place (length s) ≡ t → if t (step_by n prefix s place line (record_of paper n (drop place s))) (step.End (length s)) ≡ step.Good r next
          → Lies n s place r
      go true q h = (omega (arith, ltb-true place (length s) q), step_by_lem (record_of paper n (drop place s)) h)
      go false q h = absurd (let z : ◌≡◌ {A = ℕ} 0 1 = cc in omega arith)

pub step_near : (kind : ℕ) (prefix s : List ℕ) (place line : ℕ) {r : Record} {next : ℕ}
    → step_answer kind prefix s place line ≡ Ok (step.Good r next) → Near place r
unfolding step_answer
step_near kind prefix s place line {r} {next} e =
    let (n, digits, h) = through kind (length s) (length prefix) (λ n. Ok (step_of paper n prefix s place line)) e
    (λ q. let z : ◌≡◌ {A = ℕ} 0 1 = cc in omega arith) (λ q. let z : ◌≡◌ {A = ℕ} 0 1 = cc in omega arith) in
    near n s place r (admitted kind (length s) (length prefix) n digits).1 (step_read n prefix s place line {r = r} {next = next} cc)
