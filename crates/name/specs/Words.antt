-- Words in a byte string: standing in it, ending it; and a test that all of a list pass.
use Rattle.std.specs.Prelude.{Bool, true, ◌&&◌, ◌||◌, List, [], ◌∷◌, ℕ}
use Rattle.compare.specs.Prefix.{begins, same}

-- w stands somewhere in s
abbrev pub contains : List ℕ → List ℕ → Bool
contains w [] = begins w []
contains w (b ∷ s) = begins w (b ∷ s) || contains w s

-- s ends with w
abbrev pub ends : List ℕ → List ℕ → Bool
ends w [] = same w []
ends w (b ∷ s) = same w (b ∷ s) || ends w s

-- all that stands in the list passes the test
abbrev pub all {ℓ} : {A : Type ℓ} → (A → Bool) → List A → Bool
all p [] = true
all p (b ∷ s) = p b && all p s
