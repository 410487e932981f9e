-- The order of byte strings.
use Rattle.std.specs.Prelude.{Bool, List, [], ◌∷◌, ℕ, ltb}
pub use Rattle.std.specs.Ordering.{is_lt as is_less}
use Rattle.parse.specs.Choice.{if}
use Rattle.std.specs.declared.cmp.Ordering.{Ordering}
use Rattle.std.specs.declared.cmp.Ordering.TheVariants.{Equal, Greater, Less}

-- byte by byte; where the two are alike until one of them ends, the one that ends first is the smaller
abbrev pub order_of : List ℕ → List ℕ → Ordering
order_of [] [] = Equal
order_of [] (y ∷ b) = Less
order_of (x ∷ a) [] = Greater
order_of (x ∷ a) (y ∷ b) = if (ltb x y) Less (if (ltb y x) Greater (order_of a b))

abbrev pub smaller : List ℕ → List ℕ → Bool
smaller a b = is_less (order_of a b)

-- one of three, by an order
abbrev pub by_order {ℓ} : {A : Type ℓ} → Ordering → A → A → A → A
by_order Less a b c = a
by_order Equal a b c = b
by_order Greater a b c = c
