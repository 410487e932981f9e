-- Stepping until the end hands out the items, from any place on, with any prefix; and then it says the end.
use Rattle.std.specs.Prelude.{◌≡◌, Bool, true, false, List, [], ◌∷◌, ℕ, ◌-◌, ◌<◌, length, drop, Result, Ok, Err}
use Rattle.std.proofs.Math.Option.{Option, some}
use Rattle.class.specs.Class.{Classes}
use Rattle.compare.specs.Prefix.{begins}
use Rattle.header.specs.declared.Header.{Header}
use Rattle.header.specs.Header.{header_of}
use Rattle.start.specs.Start.{start_line}
use Rattle.iter.specs.Items.{Item, items, name_of}
use Rattle.handed.specs.Handed.{line_over, handed}
use Rattle.handed.specs.Iteration.{Iteration, said_end, iterate, read, read_of}
use Rattle.decode.specs.declared.reference.Fault.{Fault}
use Rattle.decode.specs.declared.reference.Record.{Record}

-- "a good record whose name doesn't begin with it ends the iteration for good; errors are handed out whatever the prefix"
abbrev pub unless_other : Result Record Fault → Bool → List Item → List Item
unless_other (Ok r) true l = l
unless_other (Ok r) false l = []
unless_other (Err f) wanted l = l

abbrev pub up_to_other : ℕ → List ℕ → List Item → List Item
up_to_other n prefix [] = []
up_to_other n prefix (i ∷ l) = unless_other i.what (begins prefix (name_of n i)) (i ∷ up_to_other n prefix l)

-- the line behind all of them
abbrev pub line_after : Option ℕ → List Item → Option ℕ
line_after line [] = line
line_after line (i ∷ l) = line_after (line_over line i) l

-- some items handed out, then the end: "Every end, a prefix's too, gives the length as next place", and the line number as it came
abbrev pub all_of : ℕ → ℕ → ℕ → Option ℕ → List Item → Iteration
all_of n len place line l = record { out = handed n place line l; stop = said_end len (line_after line l) }

-- more turns than there are bytes from the place on are enough: each item takes one byte at least, and the end takes a turn
pub record HandsOut (byte : Classes) (n : ℕ) (prefix s : List ℕ) (place : ℕ) (line : Option ℕ) : Type 0 where
  pub all : (turns : ℕ) → length s - place < turns
      → iterate byte n prefix s turns place line ≡ all_of n (length s) place line (up_to_other n prefix (items byte n (drop place s)))

-- no prefix is the empty prefix: all items come out
pub record HandsOutAll (byte : Classes) (n : ℕ) (s : List ℕ) (place : ℕ) (line : Option ℕ) : Type 0 where
  pub all : (turns : ℕ) → length s - place < turns
      → iterate byte n [] s turns place line ≡ all_of n (length s) place line (items byte n (drop place s))

-- a file whose header can be read: all items behind the header
pub record ReadsFile (byte : Classes) (n : ℕ) (file : List ℕ) : Type 0 where
  pub all : (h : Header) → header_of byte file ≡ Ok h
      → read_of byte n file ≡ read (all_of n (length file) h.body (some (start_line file)) (items byte n (drop h.body file)))
