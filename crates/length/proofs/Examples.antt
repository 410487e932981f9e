-- Document 01's worked examples of name lengths: the prover computes every case.
use mathlib.Core.Path.{◌≡◌, refl}
use Rattle.length.specs.Length.{length_at}
use Rattle.length.specs.Examples.{all_computed, cases}

pub every_case : all_computed cases ≡ cases
unfolding length_at
every_case = refl
