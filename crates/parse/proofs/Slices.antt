-- Parts of parts: what a slice to the end holds, and a part that lies inside another.
use mathlib.Core.Path.{◌≡◌, refl}
use mathlib.Core.List.{List, [], ◌∷◌}
use Prim.Native.Nat.{ℕ, zero, suc, ◌+◌, ◌-◌, ◌≤◌}
use native.Mathlib.Omega.{arith}
use lib.ListN.{length, take, drop, length-drop}
use lib.Seq.{take_all, take-take}

-- the bytes from a place to the end
pub rest_is : (s : List ℕ) (place : ℕ) → take (length s - place) (drop place s) ≡ drop place s
rest_is s place = take_all (length s - place) (drop place s) (omega (arith, length-drop place s))

-- a part of the first k bytes is that part of them all
pub part_of_front : (len from k : ℕ) (s : List ℕ) → from + len ≤ k → take len (drop from (take k s)) ≡ take len (drop from s)
part_of_front len zero k s h = take-take len k s (omega arith)
part_of_front len (suc from) zero s h = absurd (omega arith)
part_of_front len (suc from) (suc k) [] h = refl
part_of_front len (suc from) (suc k) (b ∷ s) h = part_of_front len from k s (omega arith)
