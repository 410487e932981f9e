-- The order of places by the names that stand there.
use Rattle.std.specs.Prelude.{Bool, ◌&&◌, ◌||◌, List, ℕ, ltb}
use Rattle.compare.specs.Order.{smaller}
use Rattle.compare.specs.Prefix.{same}
use Rattle.places.specs.declared.name.Layout.{Layout}
use Rattle.places.specs.Name.{standing_name}

-- the name of p is smaller than that of q, or they are the same and p < q: for any way to name a place
unfoldable pub before : (ℕ → List ℕ) → ℕ → ℕ → Bool
before name p q = smaller (name p) (name q) || (same (name p) (name q) && ltb p q)

-- by the names that stand there, "equal names in list order"
abbrev pub comes_first : Layout → List ℕ → ℕ → ℕ → Bool
comes_first layout s = before (standing_name layout s)
