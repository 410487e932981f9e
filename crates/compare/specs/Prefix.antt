-- Beginning with other bytes, and being the same bytes.
use Rattle.std.specs.Prelude.{Bool, true, false, ◌&&◌, List, [], ◌∷◌, ℕ, eqb}

-- the bytes s begin with w
abbrev pub begins : List ℕ → List ℕ → Bool
begins [] s = true
begins (a ∷ w) [] = false
begins (a ∷ w) (b ∷ s) = eqb b a && begins w s

-- s is w, byte by byte
abbrev pub same : List ℕ → List ℕ → Bool
same [] [] = true
same [] (b ∷ s) = false
same (a ∷ w) [] = false
same (a ∷ w) (b ∷ s) = eqb b a && same w s
