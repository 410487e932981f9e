-- Two texts letter by letter: what the functions of src/text.rt promise each other.
use Rattle.std.specs.Prelude.{false, ◌≡◌, List, [], ◌∷◌, ℕ, suc, ◌+◌, ◌≤◌, ◌<◌, length, get_or}
use Rattle.class.specs.Class.{is_line_end}

-- one more than the first byte, and 0 where there is none: the smaller text has the smaller letter
abbrev pub letter : List ℕ → ℕ
letter [] = 0
letter (b ∷ s) = suc b

-- for n bytes from i on, both texts go on and are alike
pub record Alike (x y : List ℕ) (i n : ℕ) : Type 0 where
  pub in_x : i + n ≤ length x
  pub in_y : i + n ≤ length y
  pub bytes : (k : ℕ) → k < n → (get_or x (i + k) 0 ≡ get_or y (i + k) 0) × (is_line_end (get_or x (i + k) 0) ≡ false)
