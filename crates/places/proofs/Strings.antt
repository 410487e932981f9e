-- The order of byte strings by their first letters.
use mathlib.Core.Path.{◌≡◌, refl}
use mathlib.Core.List.{List, [], ◌∷◌}
use Prim.Native.Nat.{ℕ, ◌<◌}
use native.Mathlib.Omega.{arith}
use borrow.Author.Tests.{lt-ltb, le-ltb}
use Rattle.compare.specs.Order.{order_of}
use Rattle.places.specs.Letter.{letter}
use Rattle.std.specs.declared.cmp.Ordering.TheVariants.{Equal, Greater, Less}

pub smaller_letter : (a b : List ℕ) → letter a < letter b → order_of a b ≡ Less
smaller_letter [] [] h = absurd (omega arith)
smaller_letter [] (y ∷ b) h = refl
smaller_letter (x ∷ a) [] h = absurd (omega arith)
smaller_letter (x ∷ a) (y ∷ b) h = rw (lt-ltb x y (omega arith))

pub greater_letter : (a b : List ℕ) → letter b < letter a → order_of a b ≡ Greater
greater_letter [] [] h = absurd (omega arith)
greater_letter [] (y ∷ b) h = absurd (omega arith)
greater_letter (x ∷ a) [] h = refl
greater_letter (x ∷ a) (y ∷ b) h = rw (le-ltb x y (omega arith), lt-ltb y x (omega arith))

pub no_letter : (a b : List ℕ) → letter a ≡ 0 → letter b ≡ 0 → order_of a b ≡ Equal
no_letter [] [] h k = refl
no_letter [] (y ∷ b) h k = absurd (omega arith)
no_letter (x ∷ a) b h k = absurd (omega arith)
