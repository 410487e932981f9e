-- Every id, name, peeled id and text that is handed out is a part of a line that stands in the lent bytes.
use Rattle.std.specs.Prelude.{◌≡◌, List, [], ◌∷◌, ℕ, ◌<◌, length, take, drop}
use Rattle.std.proofs.Math.Option.{Option, none, some}
use Rattle.class.specs.Class.{paper}
use Rattle.parse.specs.Line.{line_len}
use Rattle.probe.specs.RecordStart.{line_start}
use Rattle.handed.specs.Handed.{Handed, good, error, Given}
use Rattle.handed.specs.Iteration.{read_of, out_of}

-- a line of the bytes s: it begins at the front or behind a line feed, and runs through the next line feed, or to the end if there is none
pub record LineOf (s line : List ℕ) : Type 0 where
  pub place : ℕ
  pub inside : place < length s
  pub begins : line_start s place ≡ place
  pub is : line ≡ take (line_len (drop place s)) (drop place s)

-- the bytes x stand in a line of s
pub record InLine (s x : List ℕ) : Type 0 where
  pub line : List ℕ
  pub stands : LineOf s line
  pub from : ℕ
  pub len : ℕ
  pub is : x ≡ take len (drop from line)

abbrev pub InLineIf : List ℕ → Option (List ℕ) → Type 0
InLineIf s none = Unit {0}
InLineIf s (some x) = InLine s x

-- all bytes of what is handed out do
abbrev pub InLines : List ℕ → Handed → Type 0
InLines s (good e) = InLine s e.id × InLine s e.name × InLineIf s e.peeled
InLines s (error line text) = InLine s text

abbrev pub Each : (Given → Type 0) → List Given → Type 0
Each P [] = Unit {0}
Each P (g ∷ l) = P g × Each P l

-- of any file
abbrev pub ReadFromLines : ℕ → List ℕ → Type 0
ReadFromLines n file = Each (λ g. InLines file g.what) (out_of (read_of paper n file))
