-- The two rules on components, said without components: by the letters of the whole name.
use Rattle.std.specs.Prelude.{◌≡◌, not, ◌||◌, List, [], ◌∷◌, ℕ}
use Rattle.compare.specs.Prefix.{begins}
use Rattle.name.specs.Words.{contains, ends}
use Rattle.name.specs.Name.{dot, dot_lock, no_component_begins_with_dot, no_component_ends_with_lock}

-- `/.` and `.lock/`
abbrev pub slash_dot : List ℕ
slash_dot = 47 ∷ 46 ∷ []

abbrev pub dot_lock_slash : List ℕ
dot_lock_slash = 46 ∷ 108 ∷ 111 ∷ 99 ∷ 107 ∷ 47 ∷ []

pub record ByLetters (s : List ℕ) : Type 0 where
  -- a component begins with a dot exactly if the name does, or has `/.` somewhere
  pub dots : no_component_begins_with_dot s ≡ not (begins dot s || contains slash_dot s)
  -- a component ends with `.lock` exactly if the name does, or has `.lock/` somewhere
  pub locks : no_component_ends_with_lock s ≡ not (ends dot_lock s || contains dot_lock_slash s)
