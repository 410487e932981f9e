-- Why a record is bad: what each of the numbers 41 to 45 says of the bytes s. n is the number of an id's digits.
use Rattle.std.specs.Prelude.{◌≡◌, true, List, ℕ, ◌+◌, ◌≤◌, ◌<◌, get_or, take, drop, Err}
use Rattle.class.specs.Class.{Classes}
use Rattle.parse.specs.Run.{span}
use Rattle.parse.specs.Line.{eol, text_len}
use Rattle.name.specs.Name.{valid_name}
use Rattle.decode.specs.declared.reference.Fault.{Fault}
use Rattle.decode.specs.declared.reference.Fault.TheVariants.{Id, Space, LineEnd, Name, Peeled}
use Rattle.decode.specs.Record.{record_of}

module _ (byte : Classes) (n : ℕ) (s : List ℕ) where
  -- ---- the five parts, each at its place behind those before

  -- n hex digits at the front
  abbrev pub HasId : Type 0
  HasId = n ≤ span byte.hex s

  -- then a space, which is 32
  abbrev pub HasSpace : Type 0
  HasSpace = get_or s n 0 ≡ 32

  -- then text, which a line end ends
  abbrev pub name_len : ℕ
  name_len = text_len byte (drop (n + 1) s)

  abbrev pub name_end : ℕ
  name_end = n + 1 + name_len

  abbrev pub HasLineEnd : Type 0
  HasLineEnd = 0 < eol (drop name_end s)

  -- the text is a name
  abbrev pub HasName : Type 0
  HasName = valid_name byte (take name_len (drop (n + 1) s)) ≡ true

  -- a second line, if it begins with `^`, which is 94: n hex digits behind that, then a line end
  abbrev pub second : ℕ
  second = name_end + eol (drop name_end s)

  abbrev pub HasCaret : Type 0
  HasCaret = get_or s second 0 ≡ 94

  abbrev pub HasPeeled : Type 0
  HasPeeled = (n ≤ span byte.hex (drop (second + 1) s)) × (0 < eol (drop (second + 1 + n) s))

  -- ---- "41 first id, 42 no space, 43 line not ended properly, 44 name, 45 anything in the `^` line. The first in that order counts": the parts before
  -- it are there

  pub data Why : Fault → Type 0 where
    id : (HasId → ⊥) → Why Id
    space : HasId → (HasSpace → ⊥) → Why Space
    line_end_lem : HasId → HasSpace → (HasLineEnd → ⊥) → Why LineEnd
    name : HasId → HasSpace → HasLineEnd → (HasName → ⊥) → Why Name
    peeled : HasId → HasSpace → HasLineEnd → HasName → HasCaret → (HasPeeled → ⊥) → Why Peeled

  -- a record is bad in a part exactly then
  pub record WhyBad (f : Fault) : Type 0 where
    pub only : record_of byte n s ≡ Err f → Why f
    pub then! : Why f → record_of byte n s ≡ Err f

-- any bytes, any classes
abbrev pub EachHasItsReason : Type 0
EachHasItsReason = (byte : Classes) (n : ℕ) (s : List ℕ) (f : Fault) → WhyBad byte n s f
