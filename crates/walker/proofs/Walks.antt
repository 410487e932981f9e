-- What a walk hands on are the line feeds of what it tells; and a walk that is given the true line number hands on the true one.
use mathlib.Core.Path.{◌≡◌, refl, sym, ap, ◌∙◌}
use mathlib.Core.Bool.{Bool, true, false}
use mathlib.Core.List.{List, []}
use Prim.Native.Nat.{ℕ, suc, ◌+◌, ◌-◌, ◌≤◌, ◌<◌}
use native.Mathlib.Omega.{arith}
use lib.Dec.{ltb}
use lib.ListN.{length, take, drop}
use lib.Seq.{take_all, take-length}
use borrow.Author.Tests.{ltb-true, ltb-false}
use Rattle.class.specs.Class.{paper}
use Rattle.parse.specs.Choice.{if}
use Rattle.parse.specs.Limit.{admission, admit}
use Rattle.parse.specs.Line.{line_len}
use Rattle.parse.proofs.Admitted.{admitted}
use Rattle.compare.specs.Prefix.{begins}
use Rattle.decode.specs.Record.{record_of}
use Rattle.line_number.specs.LineNumber.{line_feeds, line_number, at_most, until_feed}
use Rattle.line_number.proofs.Feeds.{within, number_on, feeds_le, line_parts, one_feed}
use Rattle.iter.specs.declared.step.Step.{Step}
use Rattle.iter.specs.declared.step.Step.TheVariants.{End, Good, Error}
use Rattle.iter.specs.Items.{name_in}
use Rattle.iter.specs.Step.{step_by, step_of, step_answer}
use Rattle.walker.specs.Walk.{next_of, line_behind, handed_on, feeds_of, AlwaysTrue}
use Rattle.walker.proofs.Feeds.{record_feeds}
use Rattle.std.specs.declared.result.Result.{Result}
use Rattle.std.specs.declared.result.Result.TheVariants.{Err, Ok}
use Rattle.decode.specs.declared.reference.Fault.{Fault}
use Rattle.decode.specs.declared.reference.Record.{Record}
use Rattle.parse.specs.declared.limit.NotAdmitted.{NotAdmitted}
use Rattle.parse.specs.declared.limit.NotAdmitted.TheVariants.{TooLarge, UnknownKind}

-- ---- what the walk reckons with are the line feeds of the item

-- of what a step tells at a place, the line feeds up to the next place
abbrev feeds_to : List ℕ → ℕ → Step → ℕ
feeds_to s place (End next) = 0
feeds_to s place (Good r next) = line_feeds (take (next - place) (drop place s))
feeds_to s place (Error f line text next) = line_feeds (take (next - place) (drop place s))

module _ (n : ℕ) (s : List ℕ) (place : ℕ) where
  abbrev t : List ℕ
  t = drop place s

  error_feeds : (line k : ℕ) → k ≡ line_len t → line_feeds (take k t) ≡ if (ltb (until_feed t) k) 1 0
  error_feeds line k e = go (ltb (until_feed t) k) refl
    where
      whole : line_feeds (take k t) ≡ line_feeds (take (line_len t) t)
      whole = ap (λ (j : ℕ). line_feeds (take j t)) e

      go : (b : Bool) → ltb (until_feed t) k ≡ b → line_feeds (take k t) ≡ if b 1 0
      go true h = omega (arith, whole, line_parts t, one_feed t, ltb-true (until_feed t) k h)
      go false h = omega (arith, whole, line_parts t, one_feed t, ltb-false (until_feed t) k h)

  feeds_told : (prefix : List ℕ) (line : ℕ) → feeds_to s place (step_of paper n prefix s place line) ≡ feeds_of place (step_of paper n prefix s place line)
  unfolding step_of
  feeds_told prefix line = go (ltb place (length s)) (record_of paper n t) refl
    where
      go : (b : Bool) (w : Result Record Fault) → record_of paper n t ≡ w → feeds_to s place (if b (step_by n prefix s place line w) (End (length s))) ≡ feeds_of place (if b (step_by n prefix s place line w) (End (length s)))
      go false w e = refl
      go true (Err f) e = error_feeds line (place + line_len t - place) (omega arith)
      go true (Ok r) e = by (begins prefix (name_in n (Ok r) t))
        where
          by : (b : Bool) → feeds_to s place (if b (Good r (place + r.size)) (End (length s))) ≡ feeds_of place (if b (Good r (place + r.size)) (End (length s)))
          by false = refl
          by true = let z : place + r.size - place ≡ r.size = omega arith in ap (λ (j : ℕ). line_feeds (take j t)) z ∙ record_feeds n t r e

behind_told : (s : List ℕ) (place line : ℕ) → line < 18446744073709551616 → (step : Step) → at_most (line + feeds_to s place step) ≡ line_behind s place line step
unfolding at_most
behind_told s place line h (Good r next) = refl
behind_told s place line h (Error f told text next) = refl
behind_told s place line h (End next) = go (ltb (line + 0) 18446744073709551615) refl
  where
    go : (b : Bool) → ltb (line + 0) 18446744073709551615 ≡ b → if b (line + 0) 18446744073709551615 ≡ line
    go true e = omega arith
    go false e = omega (arith, ltb-false (line + 0) 18446744073709551615 e)

-- so what the walk hands on is what it is to hand on
pub walked_on : (kind : ℕ) (s : List ℕ) (place line : ℕ) (step : Step) → line < 18446744073709551616 → step_answer kind [] s place line ≡ Ok step
    → at_most (line + feeds_of place step) ≡ line_behind s place line step
unfolding step_answer
walked_on kind s place line step h e = go (admission kind (length s) 0) e
  where
    go : (a : Result ℕ NotAdmitted) → admit a (λ n. Ok (step_of paper n [] s place line)) (Err UnknownKind) (Err TooLarge) ≡ Ok step
        → at_most (line + feeds_of place step) ≡ line_behind s place line step
    go (Ok n) q =
        let z : step_of paper n [] s place line ≡ step = cc in
        ap (λ (k : ℕ). at_most (line + k)) (sym (rw z at (feeds_told n s place [] line))) ∙ behind_told s place line h step
    go (Err UnknownKind) q = absurd (let z : ◌≡◌ {A = ℕ} 0 1 = cc in omega arith)
    go (Err TooLarge) q = absurd (let z : ◌≡◌ {A = ℕ} 0 1 = cc in omega arith)

-- ---- the true line number

-- no line number is larger than the bytes and one
number_le : (s : List ℕ) (place : ℕ) → line_number s place ≤ length s + 1
unfolding line_number
number_le s place = omega (arith, feeds_le s place)

-- behind the end no line feed comes
number_end : (s : List ℕ) (place : ℕ) → length s ≤ place → line_number s place ≡ line_number s (length s)
unfolding line_number
number_end s place h = ap (λ (l : List ℕ). suc (line_feeds l)) (take_all place s h ∙ sym (take-length s))

module _ (s : List ℕ) (small : length s ≤ 1073741824) (place : ℕ) where
  -- behind so many bytes
  on_by : (k : ℕ) → at_most (line_number s place + line_feeds (take (place + k - place) (drop place s))) ≡ line_number s (place + k)
  on_by k =
      let z : place + k - place ≡ k = omega arith in
      let e : line_number s place + line_feeds (take (place + k - place) (drop place s)) ≡ line_number s (place + k) =
      ap (λ (j : ℕ). line_number s place + line_feeds (take j (drop place s))) z ∙ sym (number_on s place k) in
      ap at_most e ∙ within (line_number s (place + k)) (omega (arith, number_le s (place + k)))

  pub true_on : (n line : ℕ) → line_behind s place (line_number s place) (step_of paper n [] s place line) ≡ line_number s (next_of (step_of paper n [] s place line))
  unfolding step_of
  true_on n line = go (ltb place (length s)) refl (record_of paper n (drop place s))
    where
      go : (b : Bool) → ltb place (length s) ≡ b → (w : Result Record Fault)
          → line_behind s place (line_number s place) (if b (step_by n [] s place line w) (End (length s))) ≡ line_number s (next_of (if b (step_by n [] s place line w) (End (length s))))
      go false e w = number_end s place (ltb-false place (length s) e)
      go true e (Err f) = on_by (line_len (drop place s))
      go true e (Ok r) = on_by r.size

pub always_true : AlwaysTrue
unfolding step_answer
always_true kind s place = record { same = refl; on = λ step e. go (admission kind (length s) 0) refl step e }
  where
    go : (a : Result ℕ NotAdmitted) → admission kind (length s) 0 ≡ a → (step : Step) → admit a (λ n. Ok (step_of paper n [] s place (line_number s place))) (Err UnknownKind) (Err TooLarge) ≡ Ok step
        → handed_on s place (line_number s place) (step_answer kind [] s place (line_number s place)) ≡ line_number s (next_of step)
    go (Ok n) d step q =
        let z : step_of paper n [] s place (line_number s place) ≡ step = cc in
        rw d (rw z (rw z at (true_on s (admitted kind (length s) 0 n d).1 place n (line_number s place))))
    go (Err UnknownKind) d step q = absurd (let z : ◌≡◌ {A = ℕ} 0 1 = cc in omega arith)
    go (Err TooLarge) d step q = absurd (let z : ◌≡◌ {A = ℕ} 0 1 = cc in omega arith)
