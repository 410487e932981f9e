-- The list in order, by inserting one after another, for any test `lt` of coming first.
use Rattle.std.specs.Prelude.{Bool, List, [], ◌∷◌, ℕ}
use Rattle.parse.specs.Choice.{if}

-- p in front of the first that does not come before it
abbrev pub insert : (ℕ → ℕ → Bool) → ℕ → List ℕ → List ℕ
insert lt p [] = p ∷ []
insert lt p (q ∷ l) = if (lt q p) (q ∷ insert lt p l) (p ∷ q ∷ l)

unfoldable pub sorted : (ℕ → ℕ → Bool) → List ℕ → List ℕ
sorted lt [] = []
sorted lt (p ∷ l) = insert lt p (sorted lt l)
