-- Runs of bytes at the front of a list.
use Rattle.std.specs.Prelude.{◌≡◌, Bool, false, not, List, [], ◌∷◌, ℕ, suc, ◌≤◌, ◌<◌, eqb}
use Rattle.parse.specs.Choice.{if}

-- how many bytes at the front pass the test
abbrev pub span : (ℕ → Bool) → List ℕ → ℕ
span p [] = 0
span p (b ∷ s) = if (p b) (suc (span p s)) 0

-- how many bytes stand before the first b, or all where there is none
abbrev pub before : ℕ → List ℕ → ℕ
before b s = span (λ c. not (eqb c b)) s

-- that r bytes stand before the first at which a test stops, by whatever the test's answers are: one for each byte, and no stop from 14 on
abbrev pub FirstStop : (ℕ → Bool → Type 0) → List ℕ → ℕ → Type 0
FirstStop answers s r =
    (stops : ℕ → Bool) → ((b : ℕ) (t : Bool) → b < 256 → answers b t → t ≡ stops b) → ((b : ℕ) → 14 ≤ b → stops b ≡ false) → r ≡ span (λ b. not (stops b)) s
