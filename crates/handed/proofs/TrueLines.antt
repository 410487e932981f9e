-- Every line number that is told on the way through a whole file is the true one.
use mathlib.Core.Path.{◌≡◌, refl, ap, ◌∙◌}
use mathlib.Core.List.{List, [], ◌∷◌}
use mathlib.Core.Option.{some}
use Prim.Native.Nat.{ℕ, zero, suc, ◌+◌, ◌-◌, ◌≤◌}
use lib.ListN.{length, take, drop}
use Rattle.class.specs.Class.{paper}
use Rattle.decode.specs.Entry.{entry_of}
use Rattle.header.specs.Header.{header_of}
use Rattle.line_number.specs.LineNumber.{line_feeds, line_number, at_most}
use Rattle.start.specs.Start.{start_line, start_of}
use Rattle.start.proofs.Lines.{starts_true}
use Rattle.iter.specs.declared.step.Step.{Step}
use Rattle.iter.specs.declared.step.Step.TheVariants.{End, Good, Error}
use Rattle.iter.specs.Step.{step_of}
use Rattle.walker.specs.Walk.{next_of, line_behind}
use Rattle.iter.proofs.Steps.{error_is}
use Rattle.walker.proofs.Walks.{true_on}
use Rattle.handed.specs.Handed.{Given, given, good, error}
use Rattle.handed.specs.Iteration.{iterate, read_of}
use Rattle.handed.specs.Lines.{Each}
use Rattle.handed.specs.TrueLines.{OnTrueLine, stepped, TrueLines, AllTrueLines}
use Rattle.std.specs.declared.result.Result.{Result}
use Rattle.std.specs.declared.result.Result.TheVariants.{Err, Ok}
use Rattle.header.specs.declared.BadHeader.{BadHeader}
use Rattle.header.specs.declared.Header.{Header}

module _ (n : ℕ) (s : List ℕ) (small : length s ≤ 1073741824) where
  -- plain steps tell true line numbers
  steps_true : (turns place : ℕ) → Each (λ g. OnTrueLine s g.place g.what) (stepped n s turns place)
  unfolding stepped
  steps_true zero place = tt
  steps_true (suc turns) place = go (step_of paper n [] s place (line_number s place)) refl (steps_true turns)
    where
      go : (w : Step) → step_of paper n [] s place (line_number s place) ≡ w → ((next : ℕ) → Each (λ g. OnTrueLine s g.place g.what) (stepped n s turns next))
          → Each (λ g. OnTrueLine s g.place g.what) (stepped n s (suc turns) place)
      go (End next) e ih = rw (e, stepped) tt
      go (Good r next) e ih = rw (e, stepped) (tt, ih next)
      go (Error f line text next) e ih = rw (e, stepped) ((error_is paper n [] s place (line_number s place) e).0, ih next)

  -- walks that begin on the true line tell what plain steps tell
  walks_plain : (turns place : ℕ) → (iterate paper n [] s turns place (some (line_number s place))).out ≡ stepped n s turns place
  unfolding iterate stepped
  walks_plain zero place = refl
  walks_plain (suc turns) place = go (step_of paper n [] s place (line_number s place)) refl (true_on s small place n (line_number s place)) (walks_plain turns)
    where
      -- what is handed on to the next place is its true line number
      behind : (next : ℕ) → at_most (line_number s place + line_feeds (take (next - place) (drop place s))) ≡ line_number s next
          → (iterate paper n [] s turns next (some (line_number s next))).out ≡ stepped n s turns next
          → (iterate paper n [] s turns next (some (at_most (line_number s place + line_feeds (take (next - place) (drop place s)))))).out ≡ stepped n s turns next
      behind next on ih = ap (λ (k : ℕ). (iterate paper n [] s turns next (some k)).out) on ∙ ih

      go : (w : Step) → step_of paper n [] s place (line_number s place) ≡ w
          → line_behind s place (line_number s place) (step_of paper n [] s place (line_number s place)) ≡ line_number s (next_of (step_of paper n [] s place (line_number s place)))
          → ((next : ℕ) → (iterate paper n [] s turns next (some (line_number s next))).out ≡ stepped n s turns next)
          → (iterate paper n [] s (suc turns) place (some (line_number s place))).out ≡ stepped n s (suc turns) place
      go (End next) e on ih = rw (e, iterate, stepped)
      go (Good r next) e on ih = rw (e, iterate, stepped) (ap (λ (l : List Given). given place next (good (entry_of n (drop place s) r)) ∷ l) (behind next (rw e at on) (ih next)))
      go (Error f line text next) e on ih = rw (e, iterate, stepped) (ap (λ (l : List Given). given place next (error line (take text (drop place s))) ∷ l) (behind next (rw e at on) (ih next)))

pub true_lines : AllTrueLines
unfolding read_of start_of
true_lines n file small = go (header_of paper file) refl
  where
    go : (o : Result Header BadHeader) → header_of paper file ≡ o → TrueLines n file
    go (Err k) e = record { told = rw e tt; plain = rw e }
    go (Ok h) e =
        let same : (iterate paper n [] file (suc (length file)) h.body (some (start_line file))).out ≡ stepped n file (suc (length file)) h.body =
        ap (λ (k : ℕ). (iterate paper n [] file (suc (length file)) h.body (some k)).out) ((starts_true file).line h e)
        ∙ walks_plain n file small (suc (length file)) h.body in
        record { told = rw (e, same) (steps_true n file small (suc (length file)) h.body); plain = rw e same }
