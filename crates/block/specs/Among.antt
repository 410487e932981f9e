-- Whether a number is among others.
use Rattle.std.specs.Prelude.{Bool, false, ◌||◌, List, [], ◌∷◌, ℕ, eqb}

abbrev pub among : ℕ → List ℕ → Bool
among b [] = false
among b (x ∷ s) = eqb x b || among b s
