-- The classes of a byte: hex digit, forbidden in a name, line end. Stated once over all bytes.
use Rattle.std.specs.Prelude.{Bool, true, false, ◌&&◌, ◌||◌, List, [], ◌∷◌, ℕ, zero, suc, ◌+◌, ◌*◌, ◌/◌, ◌%◌, leb, ltb, eqb, get_or}

-- from lo to hi, both included
abbrev pub within : ℕ → ℕ → ℕ → Bool
within lo hi b = leb lo b && leb b hi

-- "A hex digit is 0-9, a-f, A-F."
unfoldable pub is_hex : ℕ → Bool
is_hex b = within 48 57 b || (within 97 102 b || within 65 70 b)

-- "no byte under 32, no 127, space, ~ ^ : ? * [ \"
unfoldable pub is_forbidden : ℕ → Bool
is_forbidden b =
    ltb b 32
    || (eqb b 127 || (eqb b 32 || (eqb b 126 || (eqb b 94 || (eqb b 58 || (eqb b 63 || (eqb b 42 || (eqb b 91 || eqb b 92))))))))

-- "Text runs to the first CR or LF": LF is 10, CR 13
unfoldable pub is_line_end : ℕ → Bool
is_line_end b = eqb b 10 || eqb b 13

-- what is asked of a byte
pub record Classes : Type 0 where
  pub hex : ℕ → Bool
  pub forbidden : ℕ → Bool
  pub line_end : ℕ → Bool

-- the classes of document 01
abbrev pub paper : Classes
paper = record { hex = is_hex; forbidden = is_forbidden; line_end = is_line_end }

-- ---- the table: 1 for a hex digit, 2 for a forbidden byte, 4 for a line end, added up

abbrev pub bit : Bool → ℕ
bit true = 1
bit false = 0

unfoldable pub class_of : ℕ → ℕ
class_of b = bit (is_hex b) + 2 * bit (is_forbidden b) + 4 * bit (is_line_end b)

-- f i, f (i + 1), .. : n values
abbrev pub values_from : (ℕ → ℕ) → ℕ → ℕ → List ℕ
values_from f i zero = []
values_from f i (suc n) = f i ∷ values_from f (suc i) n

-- the entry at each byte is its class
unfoldable pub class_table : List ℕ
class_table = values_from class_of 0 256

-- the classes that are read off a table of such sums
abbrev pub classes_of : List ℕ → Classes
classes_of t =
    record {
      hex = λ b. eqb (get_or t b 0 % 2) 1;
      forbidden = λ b. eqb (get_or t b 0 / 2 % 2) 1;
      line_end = λ b. eqb (get_or t b 0 / 4 % 2) 1;
    }
