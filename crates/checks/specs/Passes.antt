-- When items pass the check, and which is their first fault.
use Rattle.std.specs.Prelude.{◌≡◌, Bool, true, false, ◌&&◌, List, [], ◌∷◌, ◌++◌, ℕ, ◌+◌, length, Result, Ok, Err}
use Rattle.compare.specs.Order.{order_of}
use Rattle.decode.specs.declared.reference.Fault.{Fault}
use Rattle.iter.specs.Items.{Item, name_of, bytes_of}
use Rattle.std.specs.declared.cmp.Ordering.TheVariants.{Less}
use Rattle.decode.specs.declared.reference.Record.{Record}

abbrev pub is_good : Result Record Fault → Bool
is_good (Ok r) = true
is_good (Err f) = false

abbrev pub all_good : List Item → Bool
all_good [] = true
all_good (i ∷ l) = is_good i.what && all_good l

-- each name is greater, byte by byte, than the one before it. last is the name before the first item, and empty where there is none: every valid
-- name is greater than that
abbrev pub IsAscending : ℕ → List ℕ → List Item → Type 0
IsAscending n last [] = Unit {0}
IsAscending n last (i ∷ l) = (order_of last (name_of n i) ≡ Less) × IsAscending n (name_of n i) l

-- "else 0 and the record count": all items are records in strictly ascending order, and the count is their number
pub record Passes (n : ℕ) (l : List Item) (count : ℕ) : Type 0 where
  pub good : all_good l ≡ true
  pub up : IsAscending n [] l
  pub number : count ≡ length l

-- the name before an item: that of the last item before it, or none
abbrev pub last_name : ℕ → List ℕ → List Item → List ℕ
last_name n last [] = last
last_name n last (i ∷ l) = last_name n (name_of n i) l

-- the first fault of some items that begin at a place: all before it are records in ascending order, and it is an error, or its
-- name isn't greater than the one before
pub record FirstFault (n : ℕ) (begin : ℕ) (l : List Item) (place : ℕ) : Type 0 where
  pub before : List Item
  pub it : Item
  pub after : List Item
  pub all : l ≡ before ++ it ∷ after
  pub good : all_good before ≡ true
  pub up : IsAscending n [] before
  pub here : place ≡ begin + length (bytes_of before)

pub record FirstError (n : ℕ) (begin : ℕ) (l : List Item) (place : ℕ) (f : Fault) : Type 0 where
  pub first : FirstFault n begin l place
  pub is : first.it.what ≡ Err f

pub record FirstUnsorted (n : ℕ) (begin : ℕ) (l : List Item) (place : ℕ) : Type 0 where
  pub first : FirstFault n begin l place
  pub good : is_good first.it.what ≡ true
  pub not_greater : order_of (last_name n [] first.before) (name_of n first.it) ≡ Less → ⊥
