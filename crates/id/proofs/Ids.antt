-- When n hex digits stand at a place, and when not. For any n.
use mathlib.Core.Path.{◌≡◌, refl}
use mathlib.Core.Bool.{Bool, true, false}
use mathlib.Core.List.{List}
use Prim.Native.Nat.{ℕ, ◌+◌, ◌≤◌, ◌<◌}
use lib.Dec.{leb}
use lib.ListN.{drop}
use borrow.Author.Tests.{le-leb, lt-leb, leb-true, leb-false}
use Rattle.class.specs.Class.{Classes}
use Rattle.parse.specs.Run.{span}
use Rattle.id.specs.Id.{id_at}
use Rattle.std.specs.declared.option.Option.TheVariants.{None, Some}

module _ (byte : Classes) (n : ℕ) (s : List ℕ) (at : ℕ) where
  pub id_read : n ≤ span byte.hex (drop at s) → id_at byte n s at ≡ Some (at + n)
  unfolding id_at
  id_read h = rw (le-leb n (span byte.hex (drop at s)) h)

  pub id_unread : span byte.hex (drop at s) < n → id_at byte n s at ≡ None
  unfolding id_at
  id_unread h = rw (lt-leb n (span byte.hex (drop at s)) h)

-- what the answer says of the bytes: one case for an id that was read, one for one that was not
pub data IdView (byte : Classes) (n : ℕ) (s : List ℕ) (at : ℕ) : Type 0 where
  id : n ≤ span byte.hex (drop at s) → id_at byte n s at ≡ Some (at + n) → IdView byte n s at
  no_id : span byte.hex (drop at s) < n → id_at byte n s at ≡ None → IdView byte n s at

pub id_view : (byte : Classes) (n : ℕ) (s : List ℕ) (at : ℕ) → IdView byte n s at
unfolding id_at
id_view byte n s at = go (leb n (span byte.hex (drop at s))) refl
  where
    go : (t : Bool) → leb n (span byte.hex (drop at s)) ≡ t → IdView byte n s at
    go true e = id (leb-true _ _ e) (rw e)
    go false e = no_id (leb-false _ _ e) (rw e)
