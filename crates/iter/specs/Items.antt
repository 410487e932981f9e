-- The items of a body: each a good record, or an error that covers a line.
use Rattle.std.specs.Prelude.{List, [], ◌∷◌, ◌++◌, ℕ, zero, suc, pred, take, Result}
use Rattle.class.specs.Class.{Classes}
use Rattle.parse.specs.Line.{line_len}
use Rattle.decode.specs.Entry.{entry_of}
use Rattle.decode.specs.Record.{record_of, decoded}
use Rattle.decode.specs.declared.reference.Fault.{Fault}
use Rattle.decode.specs.declared.reference.Record.{Record}

-- what was read, and the bytes that it covers. An item does not hold its place, so the same bytes are the same item wherever they stand
pub record Item : Type 0 where
  pub what : Result Record Fault
  pub bytes : List ℕ

module _ (byte : Classes) (n : ℕ) where
  -- the size of the item at the front of s: a good record covers its bytes; "On a bad one the item is an error covering from its start through the
  -- next LF, or the rest if none."
  unfoldable pub size_of : List ℕ → ℕ
  size_of s = decoded (record_of byte n s) (λ r. r.size) (λ f. line_len s)

  abbrev pub item_of : List ℕ → Item
  item_of s = record { what = record_of byte n s; bytes = take (size_of s) s }

  -- the items of s behind its first k bytes. Those bytes are the rest of the item before, which is passed over byte by byte
  unfoldable pub items_behind : ℕ → List ℕ → List Item
  items_behind k [] = []
  items_behind (suc k) (b ∷ s) = items_behind k s
  items_behind zero (b ∷ s) = item_of (b ∷ s) ∷ items_behind (pred (size_of (b ∷ s))) s

  -- "Reading goes on after the covered bytes."
  unfoldable pub items : List ℕ → List Item
  unfolding items_behind
  items s = items_behind 0 s

-- the bytes of some items, one after another
abbrev pub bytes_of : List Item → List ℕ
bytes_of [] = []
bytes_of (i ∷ l) = i.bytes ++ bytes_of l

-- the name of an item with ids of n digits; an error has none
abbrev pub name_in : ℕ → Result Record Fault → List ℕ → List ℕ
name_in n what s = decoded what (λ r. (entry_of n s r).name) (λ f. [])

abbrev pub name_of : ℕ → Item → List ℕ
name_of n i = name_in n i.what i.bytes
