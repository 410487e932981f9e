-- Putting places in order keeps their number, and a part that was put in order stands in front of the rest.
use mathlib.Core.Path.{◌≡◌, ap, ◌∙◌}
use mathlib.Core.List.{List, ◌++◌}
use Prim.Native.Nat.{ℕ, ◌≤◌}
use native.Mathlib.Omega.{arith}
use lib.ListN.{length, take, drop, length-append, length-drop}
use lib.Seq.{length-take-le, take_at, drop_at}
use Rattle.sort.proofs.Sorting.{length_sorted}
use Rattle.edits.specs.List.{in_order}

-- of the first k entries
pub length_order : (list index : List ℕ) (k : ℕ) → k ≤ length index → length (in_order list (take k index)) ≡ k
length_order list index k h = length_sorted _ (take k index) ∙ length-take-le k index h

-- an index that holds k places in front of what it held before
module _ (places index filled : List ℕ) (k : ℕ) (e : filled ≡ places ++ drop (length places) index) (z : length places ≡ k) (room : k ≤ length index) where
  pub front : take k filled ≡ places
  front = ap (take k) e ∙ take_at places (drop (length places) index) k z

  pub behind : drop k filled ≡ drop k index
  behind = ap (drop k) e ∙ drop_at places (drop (length places) index) k z ∙ ap (λ (j : ℕ). drop j index) z

  pub as_long : length filled ≡ length index
  as_long = omega (arith, ap length e, length-append places (drop (length places) index), length-drop (length places) index)
