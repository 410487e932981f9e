-- The parts of an edit, once its length is read.
use mathlib.Core.Path.{◌≡◌}
use mathlib.Core.List.{List}
use Prim.Native.Nat.{ℕ, ◌+◌, ◌-◌}
use native.Mathlib.Omega.{arith}
use lib.ListN.{take, drop}
use Rattle.length.specs.Length.{length_at, length_of}
use Rattle.parts.specs.Parts.{edit_name, behind_name}

-- so many bytes from a place on, as the code says it
pub part_is : (s : List ℕ) (from n : ℕ) → take (from + n - from) (drop from s) ≡ take n (drop from s)
part_is s from n =
    let e : from + n - from ≡ n = omega arith in
    rw e

module _ (list : List ℕ) (place : ℕ) where
  module _ {len from : ℕ} (measure : length_at list (place + 1) ≡ length_of len from) where
    pub name_there : edit_name list place ≡ take len (drop from list)
    unfolding edit_name
    name_there = rw measure

    pub behind_there : behind_name list place ≡ drop (from + len) list
    unfolding behind_name
    behind_there = rw measure
