-- The name that stands at a place of the bytes, by how they are laid out. Every place has one: a name ends where the bytes end.
use Rattle.std.specs.Prelude.{List, ℕ, ◌+◌, take, drop}
use Rattle.class.specs.Class.{paper}
use Rattle.parse.specs.Line.{text_len}
use Rattle.parts.specs.Parts.{edit_name}
use Rattle.places.specs.declared.name.Layout.{Layout}
use Rattle.places.specs.declared.name.Layout.TheVariants.{Edit, Record}

-- "Text runs to the first CR or LF", or to the end
unfoldable pub text_of : List ℕ → List ℕ
text_of r = take (text_len paper r) r

-- a record: an id of so many digits, one byte, and its name as text; for an index of a file's records, which is still to come
abbrev pub standing_name : Layout → List ℕ → ℕ → List ℕ
standing_name Edit s p = edit_name s p
standing_name (Record digits) s p = text_of (drop (p + digits + 1) s)
