-- A symbolic content by the two places where its path starts and ends.
use mathlib.Core.Path.{◌≡◌}
use mathlib.Core.List.{List}
use Prim.Native.Nat.{ℕ, ◌+◌, ◌-◌}
use native.Mathlib.Omega.{arith}
use lib.ListN.{take, drop}
use Rattle.parse.specs.Choice.{if}
use Rattle.class.specs.Class.{Classes}
use Rattle.name.specs.Name.{valid_name}
use Rattle.loose.specs.Loose.{path_start, path_len, symbolic_of}
use Rattle.std.specs.declared.result.Result.TheVariants.{Err, Ok}
use Rattle.loose.specs.declared.Loose.TheVariants.{Symbolic}
use Rattle.loose.specs.declared.LooseFault.TheVariants.{BadTarget}

-- the path's length is what lies between the two
pub by_places : (byte : Classes) (s : List ℕ) {from end : ℕ} → from ≡ path_start s → end ≡ from + path_len byte (drop from s)
    → symbolic_of byte s ≡ if (valid_name byte (take (end - from) (drop from s))) (Ok (Symbolic from (end - from))) (Err BadTarget)
unfolding symbolic_of
by_places byte s {from} {end} start stop =
    let len : end - from ≡ path_len byte (drop from s) = omega arith in
    rw (← start, ← len)
