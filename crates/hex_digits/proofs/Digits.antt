-- The sixteen digits as a table.
use mathlib.Core.Path.{◌≡◌, ap, ◌∙◌}
use Prim.Native.Nat.{ℕ, ◌<◌}
use native.Mathlib.Nat.{zero-add}
use lib.ListN.{get_or}
use Rattle.class.specs.Class.{values_from}
use Rattle.class.proofs.Classes.{value_at}
use Rattle.hex_digits.specs.Hex.{hex_digit}

-- the entries of the digits
pub digit_at : (k : ℕ) → k < 16 → get_or (values_from hex_digit 0 16) k 0 ≡ hex_digit k
digit_at k h = value_at hex_digit 0 16 k h ∙ ap hex_digit (zero-add k)
