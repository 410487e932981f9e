-- The name of a record by shape only.
use Rattle.std.specs.Prelude.{List, ℕ, ◌-◌, ltb, Option, Some, None}
use Rattle.parse.specs.Choice.{if}
use Rattle.class.specs.Class.{Classes}
use Rattle.parse.specs.Part.{then, byte_at}
use Rattle.parse.specs.Line.{text_at, ended}

-- "the byte at the id's length is a space, then non-empty text and a line end"
unfoldable pub shape_of : Classes → ℕ → List ℕ → Option ℕ
shape_of byte n s =
    then (byte_at 32 s n)
    (λ from. ended (text_at byte s from) (λ end next. if (ltb from end) (Some (end - from)) None) None)
    None
