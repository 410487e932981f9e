-- `tell::name_at` meets its contract: an id has few digits, so the sums fit.
use mathlib.Core.Path.{◌≡◌, sym}
use Prim.Native.Nat.{ℕ, ◌≤◌}
use native.Mathlib.Omega.{arith}
use Rattle.std.specs.declared.option.Option.{Option}
use Rattle.std.specs.declared.option.Option.TheVariants.{Some, None}
use Rattle.std.specs.Prelude.{unwrap_or}
use Rattle.parse.specs.Limit.{digits_of}
use Rattle.parse.proofs.Admitted.{few_digits}
use Rattle.tell.proofs.name_at.Goals as goal
use Rattle.tell.proofs.name_at.Goals.{After-unwrap_or}

few : (c : After-unwrap_or) → c.unwrap_or.result ≤ 64
few c = go c.digits.result (sym c.digits.ensures) c.unwrap_or.ensures
  where
    go : (o : Option ℕ) → digits_of c.args.kind ≡ o → c.unwrap_or.result ≡ unwrap_or o 0 → c.unwrap_or.result ≤ 64
    go (Some n) q e = omega (arith, few_digits c.args.kind n q, e)
    go None q e = omega (arith, e)

pub overflow_add-result : goal.overflow_add-result
overflow_add-result c = omega (arith, few c, c.requires)

pub overflow_add-result-2 : goal.overflow_add-result-2
overflow_add-result-2 c = omega (arith, few c, c.requires)
