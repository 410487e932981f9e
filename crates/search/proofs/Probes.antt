-- What the probe of a place says, by what was cut out of the body and read there.
use mathlib.Core.Path.{◌≡◌, ap, ◌∙◌}
use mathlib.Core.List.{List}
use Prim.Native.Nat.{ℕ, ◌-◌}
use lib.ListN.{length, take, drop}
use Rattle.class.specs.Class.{paper}
use Rattle.parse.proofs.Slices.{rest_is}
use Rattle.probe.specs.RecordStart.{record_start}
use Rattle.search.specs.declared.Probed.{Probed}
use Rattle.search.specs.Search.{probed_of, probed_at}

pub probed_there : (n : ℕ) (s wanted : List ℕ) (place : ℕ) {start : ℕ} {rest : List ℕ} {said : Probed} → start ≡ record_start s place
    → rest ≡ take (length s - start) (drop start s) → said ≡ probed_of paper n rest wanted → said ≡ probed_at paper n s wanted place
probed_there n s wanted place {start = start} at cut e =
    e ∙ ap (λ x. probed_of paper n x wanted) (cut ∙ rest_is s start ∙ ap (λ k. drop k s) at)
