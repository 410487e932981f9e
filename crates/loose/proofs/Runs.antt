-- The place of the first byte that passes a test, as the library tells it, and the run of bytes before it.
use mathlib.Core.Path.{◌≡◌, refl}
use mathlib.Core.Bool.{Bool, true, false, not, cond}
use mathlib.Core.List.{List, [], ◌∷◌}
use Prim.Native.Nat.{ℕ, suc, ◌+◌}
use native.Mathlib.Omega.{arith}
use lib.Dec.{ltb}
use lib.ListN.{length}
use borrow.Author.Tests.{ltb-false}
use Rattle.parse.specs.Choice.{if}
use Rattle.parse.specs.Run.{span}
use Rattle.parse.proofs.Runs.{span_le}
use Rattle.std.specs.List.{position_or_len}
use Rattle.std.specs.Option.{unwrap_or}
use Rattle.std.specs.declared.option.Option.{Option}
use Rattle.std.specs.declared.option.Option.TheVariants.{None, Some}

place_is_span : (fails : ℕ → Bool) (s : List ℕ) → position_or_len (λ b. not (fails b)) s ≡ span fails s
place_is_span fails [] = refl
place_is_span fails (b ∷ s) = go (fails b) (place_is_span fails s)
  where
    go : (t : Bool) → position_or_len (λ b. not (fails b)) s ≡ span fails s
        → if (not (not t)) (1 + position_or_len (λ b. not (fails b)) s) 0 ≡ if t (suc (span fails s)) 0
    go true h = omega arith
    go false h = refl

pub first_span : (fails : ℕ → Bool) (s : List ℕ) (place : Option ℕ)
    → place ≡ (let k = position_or_len (λ b. not (fails b)) s in cond (ltb k (length s)) (Some k) None)
    → unwrap_or place (length s) ≡ span fails s
first_span fails s place e = rw (e, place_is_span fails s) (go (ltb (span fails s) (length s)) refl)
  where
    go : (t : Bool) → ltb (span fails s) (length s) ≡ t → unwrap_or (cond t (Some (span fails s)) None) (length s) ≡ span fails s
    go true h = refl
    go false h = omega (arith, ltb-false (span fails s) (length s) h, span_le fails s)
