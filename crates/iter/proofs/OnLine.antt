-- The line is told with an error and with nothing else; the line that the plain step counts is the true one.
use mathlib.Core.Path.{◌≡◌, refl, ap, ◌∙◌}
use mathlib.Core.Bool.{Bool, true, false}
use mathlib.Core.List.{List, []}
use Prim.Native.Nat.{ℕ, ◌+◌}
use lib.Dec.{ltb}
use lib.ListN.{length, drop}
use Rattle.class.specs.Class.{paper}
use Rattle.parse.specs.Choice.{if}
use Rattle.parse.specs.Limit.{admission, admit}
use Rattle.parse.proofs.Admitted.{admitted}
use Rattle.compare.specs.Prefix.{begins}
use Rattle.decode.specs.Record.{record_of}
use Rattle.line_number.specs.LineNumber.{line_number, line_told}
use Rattle.line_number.proofs.Feeds.{true_line}
use Rattle.iter.specs.declared.step.Step.TheVariants.{End, Good, Error}
use Rattle.iter.specs.Items.{name_in}
use Rattle.iter.specs.Step.{step_by, step_of, step_answer, plain_answer}
use Rattle.std.specs.declared.result.Result.{Result}
use Rattle.std.specs.declared.result.Result.TheVariants.{Err, Ok}
use Rattle.decode.specs.declared.reference.Fault.{Fault}
use Rattle.decode.specs.declared.reference.Record.{Record}
use Rattle.iter.specs.declared.step.Step.{Step}
use Rattle.parse.specs.declared.limit.NotAdmitted.{NotAdmitted}
use Rattle.parse.specs.declared.limit.NotAdmitted.TheVariants.{TooLarge, UnknownKind}

-- ---- the line is told with an error, and with nothing else

abbrev pub on_line : ℕ → Result Step NotAdmitted → Result Step NotAdmitted
on_line line (Ok (End next)) = Ok (End next)
on_line line (Ok (Good r next)) = Ok (Good r next)
on_line line (Ok (Error f told text next)) = Ok (Error f line text next)
on_line line (Err why) = Err why

-- so a step that is no error is the same on every line
pub no_line : (line : ℕ) (step : Step) → ((f : Fault) (told text next : ℕ) → step ≡ Error f told text next → ⊥) → on_line line (Ok step) ≡ Ok step
no_line line (End next) h = refl
no_line line (Good r next) h = refl
no_line line (Error f told text next) h = absurd (h f told text next refl)

pub on_line_lem : (kind : ℕ) (prefix s : List ℕ) (place line other : ℕ) → on_line line (step_answer kind prefix s place other) ≡ step_answer kind prefix s place line
unfolding step_answer step_of
on_line_lem kind prefix s place line other = go (admission kind (length s) (length prefix))
  where
    wanted : (b : Bool) (n : ℕ) (w : Result Record Fault) → on_line line (Ok (if b (step_by n prefix s place other w) (End (length s)))) ≡ Ok (if b (step_by n prefix s place line w) (End (length s)))
    wanted false n w = refl
    wanted true n (Err f) = refl
    wanted true n (Ok r) = by (begins prefix (name_in n (Ok r) (drop place s)))
      where
        by : (b : Bool) → on_line line (Ok (if b (Good r (place + r.size)) (End (length s)))) ≡ Ok (if b (Good r (place + r.size)) (End (length s)))
        by true = refl
        by false = refl

    go : (a : Result ℕ NotAdmitted) → on_line line (admit a (λ n. Ok (step_of paper n prefix s place other)) (Err UnknownKind) (Err TooLarge)) ≡ admit a (λ n. Ok (step_of paper n prefix s place line)) (Err UnknownKind) (Err TooLarge)
    go (Ok n) = wanted (ltb place (length s)) n (record_of paper n (drop place s))
    go (Err UnknownKind) = refl
    go (Err TooLarge) = refl

-- the line that is counted is the true one, since the bytes are within the limit where anything is told
pub plain_is : (kind : ℕ) (s : List ℕ) (place : ℕ) → step_answer kind [] s place (line_told s place) ≡ plain_answer kind s place
unfolding step_answer
plain_is kind s place = go (admission kind (length s) 0) refl
  where
    go : (a : Result ℕ NotAdmitted) → admission kind (length s) 0 ≡ a
        → admit a (λ n. Ok (step_of paper n [] s place (line_told s place))) (Err UnknownKind) (Err TooLarge) ≡ admit a (λ n. Ok (step_of paper n [] s place (line_number s place))) (Err UnknownKind) (Err TooLarge)
    go (Ok n) e = rw (true_line s place (admitted kind (length s) 0 n e).1)
    go (Err UnknownKind) e = refl
    go (Err TooLarge) e = refl

-- so the plain step's answer comes of the answer on any line
pub plain_from : (kind : ℕ) (s : List ℕ) (place other : ℕ) {a : Result Step NotAdmitted} → a ≡ step_answer kind [] s place other
    → on_line (line_told s place) a ≡ plain_answer kind s place
plain_from kind s place other e =
    ap (on_line (line_told s place)) e ∙ on_line_lem kind [] s place (line_told s place) other ∙ plain_is kind s place
