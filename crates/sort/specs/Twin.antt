-- The first two neighbours of a list of places that have the same name.
use Rattle.std.specs.Prelude.{List, [], ◌∷◌, ℕ, Option, Some, None}
use Rattle.parse.specs.Choice.{if}
use Rattle.compare.specs.Prefix.{same}

-- the first place of a list that has the name of the one in front of it, where p stands in front of the list
abbrev pub twin_behind : (ℕ → List ℕ) → ℕ → List ℕ → Option ℕ
twin_behind name p [] = None
twin_behind name p (q ∷ l) = if (same (name p) (name q)) (Some q) (twin_behind name q l)

unfoldable pub first_twin : (ℕ → List ℕ) → List ℕ → Option ℕ
first_twin name [] = None
first_twin name (p ∷ l) = twin_behind name p l
