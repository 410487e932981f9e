-- `parse::limit::over_limit` meets its contract.
use mathlib.Core.Path.{refl}
use Rattle.parse.specs.Limit.{over_limit}
use Rattle.parse.proofs.limit.over_limit.Goals as goal

pub returns : goal.returns
unfolding over_limit
returns c = refl
