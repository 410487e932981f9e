-- An item at its place in a body, and what each item is.
use Rattle.std.specs.Prelude.{◌≡◌, List, ◌∷◌, ◌++◌, ℕ, ◌+◌, ◌≤◌, ◌<◌, length, take, drop, Ok, Err}
use Rattle.class.specs.Class.{Classes, paper}
use Rattle.parse.specs.Line.{line_len}
use Rattle.decode.specs.declared.reference.Fault.{Fault}
use Rattle.decode.specs.declared.reference.Record.{Record}
use Rattle.probe.specs.RecordStart.{line_start}
use Rattle.iter.specs.Items.{Item, item_of, items, name_of, bytes_of}

-- "Without a prefix every byte behind the header lies in exactly one item": the items' bytes, one after another, are all the bytes
pub record Tiled (byte : Classes) (n : ℕ) (s : List ℕ) : Type 0 where
  pub all : bytes_of (items byte n s) ≡ s

-- in the body s the item stands at a place: it is one of the items, and the bytes of those before it reach to the place
pub record Stands (byte : Classes) (n : ℕ) (s : List ℕ) (place : ℕ) (it : Item) : Type 0 where
  pub before : List Item
  pub after : List Item
  pub all : items byte n s ≡ before ++ it ∷ after
  pub here : length (bytes_of before) ≡ place

-- in the body s the good record r stands at a place, and this is its name
pub record Named (n : ℕ) (s name : List ℕ) (place : ℕ) (r : Record) : Type 0 where
  pub it : Item
  pub stands : Stands paper n s place it
  pub good : it.what ≡ Ok r
  pub name_is : name_of n it ≡ name

-- the bytes b are the first line of t, or its first two
pub data Lines (t b : List ℕ) : Type 0 where
  one : b ≡ take (line_len t) t → Lines t b
  two : b ≡ take (line_len t + line_len (drop (line_len t) t)) t → Lines t b

-- every item is what reading at its place gives, goes forward, begins a line and covers whole lines;
-- an error covers one line: "from its start through the next LF, or the rest if none"
pub record EachItem (n : ℕ) (s : List ℕ) (place : ℕ) (it : Item) : Type 0 where
  pub read : it ≡ item_of paper n (drop place s)
  pub forward : 0 < length it.bytes
  pub inside : place + length it.bytes ≤ length s
  pub start : line_start s place ≡ place
  pub lines : Lines (drop place s) it.bytes
  pub error : (f : Fault) → it.what ≡ Err f → it.bytes ≡ take (line_len (drop place s)) (drop place s)
