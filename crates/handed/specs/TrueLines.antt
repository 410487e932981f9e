-- What the line numbers are worth: to a reader who walks through a whole file every one that is told is the true one, and so the walk tells what the plain step
-- tells at each of its places.
use Rattle.std.specs.Prelude.{◌≡◌, List, [], ◌∷◌, ℕ, zero, suc, ◌≤◌, length, take, drop, Result, Ok, Err}
use Rattle.class.specs.Class.{paper}
use Rattle.decode.specs.Entry.{entry_of}
use Rattle.line_number.specs.LineNumber.{line_number}
use Rattle.start.specs.Start.{start_of}
use Rattle.iter.specs.declared.step.Step.TheVariants.{End, Good, Error}
use Rattle.iter.specs.Step.{step_of}
use Rattle.handed.specs.Handed.{Handed, good, error, Given, given}
use Rattle.handed.specs.Iteration.{read_of, out_of}
use Rattle.handed.specs.Lines.{Each}
use Rattle.header.specs.declared.BadHeader.{BadHeader}
use Rattle.start.specs.declared.Start.{Start}

-- an error that was handed out at a place of s tells "the true line number (one more than the line feeds before it)"
abbrev pub OnTrueLine : List ℕ → ℕ → Handed → Type 0
OnTrueLine s place (good e) = Unit {0}
OnTrueLine s place (error line text) = line ≡ line_number s place

-- ---- so many plain steps at most, from a place: each is given a place alone, and counts

module _ (n : ℕ) (s : List ℕ) where
  unfoldable pub stepped : ℕ → ℕ → List Given
  stepped zero place = []
  stepped (suc turns) place =
      elim (step_of paper n [] s place (line_number s place)) [
        | End next ↦ []
        | Good r next ↦ given place next (good (entry_of n (drop place s) r)) ∷ stepped turns next
        | Error f line text next ↦ given place next (error line (take text (drop place s))) ∷ stepped turns next
      ]

abbrev pub stepped_from : ℕ → List ℕ → Result Start BadHeader → List Given
stepped_from n file (Ok start) = stepped n file (suc (length file)) start.place
stepped_from n file (Err bad) = []

-- of any file within the size limit
pub record TrueLines (n : ℕ) (file : List ℕ) : Type 0 where
  pub told : Each (λ g. OnTrueLine file g.place g.what) (out_of (read_of paper n file))
  pub plain : out_of (read_of paper n file) ≡ stepped_from n file (start_of paper file)

abbrev pub AllTrueLines : Type 0
AllTrueLines = (n : ℕ) (file : List ℕ) → length file ≤ 1073741824 → TrueLines n file
