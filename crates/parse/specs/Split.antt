-- Bytes split at every byte of one value.
use Rattle.std.specs.Prelude.{List, [], ◌∷◌, ℕ, eqb}
use Rattle.parse.specs.Choice.{if}

-- a byte put in front of the first word of a list; where there is no word, it becomes one
abbrev pub on_first : ℕ → List (List ℕ) → List (List ℕ)
on_first b [] = (b ∷ []) ∷ []
on_first b (w ∷ l) = (b ∷ w) ∷ l

-- `by` is the module's parameter and no argument, since the rest of the bytes is then computed once at each byte, not once in each branch
module _ (by : ℕ) where
  -- the words before, between and behind the bytes of that value; where two of these stand together, an empty word lies between them,
  -- and no bytes are one empty word
  abbrev pub split : List ℕ → List (List ℕ)
  split [] = [] ∷ []
  split (b ∷ s) = if (eqb b by) ([] ∷ split s) (on_first b (split s))
