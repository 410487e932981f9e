-- Entries that a new file may hold: their ids are of n digits and their names are valid, and the names rise.
use mathlib.Core.Path.{◌≡◌}
use mathlib.Core.Bool.{true}
use mathlib.Core.List.{List, [], ◌∷◌}
use mathlib.Core.Option.{Option, none, some}
use Prim.Native.Nat.{ℕ, ◌<◌}
use lib.ListN.{length, get_or}
use Rattle.class.specs.Class.{paper, is_hex}
use Rattle.compare.specs.Order.{order_of}
use Rattle.name.specs.Name.{valid_name}
use Rattle.decode.specs.Entry.{Entry}
use Rattle.merge.specs.Override.{Override}
use Rattle.std.specs.declared.cmp.Ordering.TheVariants.{Less}

pub record Digits (n : ℕ) (id : List ℕ) : Type 0 where
  pub long : length id ≡ n
  pub hex : (i : ℕ) → i < n → is_hex (get_or id i 0) ≡ true

abbrev pub DigitsIf : ℕ → Option (List ℕ) → Type 0
DigitsIf n none = Unit {0}
DigitsIf n (some id) = Digits n id

pub record Sound (n : ℕ) (e : Entry) : Type 0 where
  pub id : Digits n e.id
  pub name : valid_name paper e.name ≡ true
  pub peeled : DigitsIf n e.peeled

abbrev pub AllSound : ℕ → List Entry → Type 0
AllSound n [] = Unit {0}
AllSound n (e ∷ l) = Sound n e × AllSound n l

-- each name is greater than the one before; last is the name before the first
abbrev pub Ascends : List ℕ → List Entry → Type 0
Ascends last [] = Unit {0}
Ascends last (e ∷ l) = (order_of last e.name ≡ Less) × Ascends e.name l

-- the same of edits; and what an edit puts there is of its name
abbrev pub AllOf : ℕ → List ℕ → List Entry → Type 0
AllOf n name [] = Unit {0}
AllOf n name (e ∷ l) = (e.name ≡ name) × Sound n e × (l ≡ [])

abbrev pub Rises : ℕ → List ℕ → List Override → Type 0
Rises n last [] = Unit {0}
Rises n last (e ∷ l) = (order_of last e.name ≡ Less) × AllOf n e.name e.new × Rises n e.name l
