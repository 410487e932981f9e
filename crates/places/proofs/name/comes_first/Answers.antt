-- `places::name::comes_first` meets its contract: by the order of the names, then by place.
use Rattle.places.specs.Name.{standing_name}
use Rattle.places.proofs.Places.{before_then}
use Rattle.places.proofs.name.comes_first.Goals as goal

pub returns : goal.returns
returns c = cc (before_then (standing_name c.args.layout c.args.s.now) c.args.p c.args.q)
