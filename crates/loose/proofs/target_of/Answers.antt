-- `loose::target_of` meets its contract: the first bytes of all that stand behind a place.
use native.Mathlib.Nat.{sub-zero}
use Rattle.parse.proofs.Slices.{rest_is}
use Rattle.loose.proofs.target_of.Goals as goal

pub returns : goal.returns
returns c = rw (c.between.ensures, sub-zero, c.between-rest.ensures, rest_is)
