-- Ids: n hex digits.
use Rattle.std.specs.Prelude.{List, ℕ, ◌+◌, leb, drop, Option, Some, None}
use Rattle.parse.specs.Choice.{if}
use Rattle.class.specs.Class.{Classes}
use Rattle.parse.specs.Run.{span}

-- the place behind the n hex digits that stand at a place
unfoldable pub id_at : Classes → ℕ → List ℕ → ℕ → Option ℕ
id_at byte n s at = if (leb n (span byte.hex (drop at s))) (Some (at + n)) None
