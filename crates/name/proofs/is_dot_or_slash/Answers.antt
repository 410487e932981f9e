-- `name::is_dot_or_slash` meets its contract: it asks what the definition asks. Assumes nothing.
use mathlib.Core.Path.{refl}
use Rattle.name.specs.Plain.{dot_or_slash}
use Rattle.name.proofs.is_dot_or_slash.Goals as goal

pub returns : goal.returns
unfolding dot_or_slash
returns c = refl
