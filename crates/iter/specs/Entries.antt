-- The entries of some items: what each good record says, with ids of n digits. An error has none.
use Rattle.std.specs.Prelude.{List, [], ◌∷◌, ℕ}
use Rattle.decode.specs.Entry.{Entry, entry_of}
use Rattle.decode.specs.Record.{decoded}
use Rattle.iter.specs.Items.{Item}

abbrev pub entries_of : ℕ → List Item → List Entry
entries_of n [] = []
entries_of n (i ∷ l) = decoded i.what (λ r. entry_of n i.bytes r ∷ entries_of n l) (λ f. entries_of n l)
