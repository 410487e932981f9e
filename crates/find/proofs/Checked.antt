-- A body that passes the check: its items are all records, and of two of them the one that ends first has the smaller name.
use mathlib.Core.Path.{◌≡◌}
use mathlib.Core.Bool.{true}
use mathlib.Core.List.{List, []}
use Prim.Native.Nat.{ℕ, ◌<◌}
use Rattle.class.specs.Class.{paper}
use Rattle.iter.specs.Items.{Item, items}
use Rattle.checks.specs.Passes.{is_good, all_good, IsAscending, Passes}
use Rattle.iter.specs.Stands.{Stands}
use Rattle.checks.proofs.Ascending.{Apart, apart}
use Rattle.find.proofs.ItemAt.{stands_good}

-- with ids of n digits, and there are some
pub record Checked (n : ℕ) (s : List ℕ) : Type 0 where
  pub digits : 0 < n
  pub good : all_good (items paper n s) ≡ true
  pub up : IsAscending n [] (items paper n s)

pub checked : {n : ℕ} {s : List ℕ} {count : ℕ} → 0 < n → Passes n (items paper n s) count → Checked n s
checked pos passes = record { digits = pos; good = passes.good; up = passes.up }

module _ {n : ℕ} {s : List ℕ} (c : Checked n s) where
  pub good_at : {place : ℕ} {it : Item} → Stands paper n s place it → is_good it.what ≡ true
  good_at x = stands_good paper n s c.good x

  pub two_records : {a b : ℕ} {i j : Item} → Stands paper n s a i → Stands paper n s b j → Apart n a i b j
  two_records x y = apart n paper s c.up x y
