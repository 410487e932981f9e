-- What a caller who steps until the end is handed. Nothing is used here but what the start and the steps answer.
use Rattle.std.specs.Prelude.{List, [], ◌∷◌, ℕ, zero, suc, ◌-◌, length, take, drop, Result, Ok, Err}
use Rattle.std.proofs.Math.Option.{Option, some}
use Rattle.class.specs.Class.{Classes}
use Rattle.decode.specs.Entry.{entry_of}
use Rattle.start.specs.Start.{start_of}
use Rattle.iter.specs.declared.step.Step.TheVariants.{End, Good, Error}
use Rattle.iter.specs.Step.{step_of}
use Rattle.line_number.specs.LineNumber.{line_feeds}
use Rattle.handed.specs.Handed.{good, error, Given, given, line_or0, line_on}
use Rattle.header.specs.declared.BadHeader.{BadHeader}
use Rattle.start.specs.declared.Start.{Start}

-- how it came to its end: a step said so, with the next place that it gave, and the line that the walk was on; or the caller made no further step
pub data Stop : Type 0 where
  said_end : (place : ℕ) (line : Option ℕ) → Stop
  unfinished : Stop

pub record Iteration : Type 0 where
  pub out : List Given
  pub stop : Stop

abbrev pub onto : Given → Iteration → Iteration
onto g r = record { out = g ∷ r.out; stop = r.stop }

-- ---- so many steps at most, from a place, over the bytes s: walks, which are given a line number and hand on the next; or, where no line number is known,
-- steps with a prefix. Each goes on with what the one before it told. A record is told by places counted from the step's own, and an error's text begins there

module _ (byte : Classes) (n : ℕ) (prefix s : List ℕ) where
  unfoldable pub iterate : ℕ → ℕ → Option ℕ → Iteration
  iterate zero place line = record { out = []; stop = unfinished }
  iterate (suc turns) place line =
      elim (step_of byte n prefix s place (line_or0 line)) [
        | End next ↦ record { out = []; stop = said_end next line }
        | Good r next ↦ onto (given place next (good (entry_of n (drop place s) r))) (iterate turns next (line_on line (line_feeds (take (next - place) (drop place s)))))
        | Error f told text next ↦ onto (given place next (error told (take text (drop place s)))) (iterate turns next (line_on line (line_feeds (take (next - place) (drop place s)))))
      ]

-- ---- a whole file: lent to the start, and from where that says walked through until the end. An end takes a step, too

pub data Read : Type 0 where
  -- the header can't be read: number 2, and the length of its text
  refused : (text : ℕ) → Read
  read : Iteration → Read

abbrev pub read_from : Classes → ℕ → List ℕ → Result Start BadHeader → Read
read_from byte n file (Ok start) = read (iterate byte n [] file (suc (length file)) start.place (some start.line))
read_from byte n file (Err bad) = refused bad.text

unfoldable pub read_of : Classes → ℕ → List ℕ → Read
read_of byte n file = read_from byte n file (start_of byte file)

-- all that is handed out
abbrev pub out_of : Read → List Given
out_of (refused text) = []
out_of (read r) = r.out

-- and where it stops
abbrev pub stop_of : Read → Stop
stop_of (refused text) = unfinished
stop_of (read r) = r.stop
