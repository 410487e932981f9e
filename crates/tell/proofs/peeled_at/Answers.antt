-- `tell::peeled_at` meets its contract: both places are within the limit, so the sum fits.
use mathlib.Core.Path.{◌≡◌}
use Prim.Native.Nat.{ℕ, ◌+◌, ◌<◌}
use native.Mathlib.Omega.{arith}
use borrow.Author.Rules.{rules}
use Rattle.std.specs.declared.option.Option.TheVariants.{Some}
use Rattle.tell.proofs.Near.{within}
use Rattle.tell.proofs.peeled_at.Goals as goal

pub map_or-requires : goal.map_or-requires
map_or-requires c =
    let fits : (x : ℕ) → c.args.peeled ≡ Some x → c.args.place + x < 18446744073709551616 = λ x e. omega (arith, c.requires.0, within x (rw e at c.requires.1)) in
    λ x e. let f = fits x e in search rules
