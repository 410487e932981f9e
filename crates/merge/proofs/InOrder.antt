-- Names in order: a greater one is not the same, and what begins behind a name begins behind a smaller one.
use mathlib.Core.Path.{◌≡◌, ap, ◌∙◌}
use mathlib.Core.Bool.{false}
use mathlib.Core.List.{List, [], ◌∷◌}
use Prim.Native.Nat.{ℕ}
use Rattle.compare.specs.Order.{order_of}
use Rattle.compare.specs.Prefix.{same}
use Rattle.compare.proofs.Orders.{is_equal, same_by_order, less_flip, less_trans}
use Rattle.decode.specs.Entry.{Entry}
use Rattle.merge.proofs.Entries.{Ascends}
use Rattle.std.specs.declared.cmp.Ordering.TheVariants.{Less}

pub same_greater : (a b : List ℕ) → order_of a b ≡ Less → same b a ≡ false
same_greater a b h = same_by_order b a ∙ ap is_equal (less_flip a b h)

pub lower : (low last : List ℕ) (l : List Entry) → order_of low last ≡ Less → Ascends last l → Ascends low l
lower low last [] h u = tt
lower low last (e ∷ l) h u = (less_trans low last e.name h u.0, u.1)
