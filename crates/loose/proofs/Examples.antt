-- The examples hold: the prover computes them.
use mathlib.Core.Path.{refl}
use Rattle.class.specs.Class.{is_hex, is_forbidden, is_line_end}
use Rattle.parse.specs.Limit.{digits_of, over_limit, admission}
use Rattle.name.specs.Name.{valid_name}
use Rattle.loose.specs.Loose.{symbolic_of, loose_of, loose_answer}
use Rattle.loose.specs.Examples.{Examples}

pub examples : Examples
unfolding loose_answer loose_of symbolic_of admission digits_of over_limit is_hex is_forbidden is_line_end valid_name
examples = refl
