-- Bytes without any CR: what writers promise each other. Who only asks what a merge writes need not read it.
use Rattle.std.specs.Prelude.{Bool, not, List, [], ◌∷◌, ℕ, eqb}
use Rattle.parse.specs.Choice.{if}

-- CR is 13
abbrev pub not_cr : ℕ → Bool
not_cr b = not (eqb b 13)

-- the bytes without any CR
abbrev pub without_cr : List ℕ → List ℕ
without_cr [] = []
without_cr (b ∷ s) = if (eqb b 13) (without_cr s) (b ∷ without_cr s)
