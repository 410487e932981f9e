-- Which number a lookup gives by how its search ends: a hit and a miss have none in common.
use Rattle.std.specs.Prelude.{◌≡◌, Bool, true, List, ◌⊎◌, ℕ, Ok}
use Rattle.parse.specs.Choice.{if}
use Rattle.class.specs.Class.{paper}
use Rattle.name.specs.Name.{valid_name}
use Rattle.search.specs.Search.{search_of, missed}
use Rattle.find.specs.Lookup.{lookup_of, lookup_number}

module _ (n : ℕ) (s name : List ℕ) where
  abbrev pub number_of : ℕ
  number_of = lookup_number (Ok (lookup_of paper n s name))

  -- any bytes, any valid name
  pub record HitsAndMisses : Type 0 where
    -- "A lookup's hit can only be 0, 41 or 45": the shape was read, and the name equals a valid one
    pub hit : (place : ℕ) → search_of paper n s name ≡ Ok place → (number_of ≡ 0) ⊎ ((number_of ≡ 41) ⊎ (number_of ≡ 45))
    -- "Lookup's miss after a failed probe keeps 4"
    pub miss : (place : ℕ) (failed : Bool) → search_of paper n s name ≡ missed place failed → number_of ≡ if failed 4 5

abbrev pub HitOrMiss : Type 0
HitOrMiss = (n : ℕ) (s name : List ℕ) → valid_name paper name ≡ true → HitsAndMisses n s name
