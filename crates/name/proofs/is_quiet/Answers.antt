-- `name::is_quiet` meets its contract: it asks what the definition asks. Assumes nothing.
use mathlib.Core.Path.{refl}
use Rattle.name.specs.Plain.{quiet}
use Rattle.name.proofs.is_quiet.Goals as goal

pub returns : goal.returns
unfolding quiet
returns c = refl
