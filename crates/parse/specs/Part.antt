-- What reading a part gives: the place behind it, or that it can't be read.
use Rattle.std.specs.Prelude.{List, ℕ, ◌+◌, ltb, eqb, length, get_or, Option, Some, None}
use Rattle.parse.specs.Choice.{if}

-- what comes of a part's answer: f of the place behind it, or the other
abbrev pub then {ℓ} : {A : Type ℓ} → Option ℕ → (ℕ → A) → A → A
then (Some p) f other = f p
then None f other = other

-- the place behind the byte b, if that byte stands at a place
unfoldable pub byte_at : ℕ → List ℕ → ℕ → Option ℕ
byte_at b s at = if (ltb at (length s)) (if (eqb (get_or s at 0) b) (Some (at + 1)) None) None
