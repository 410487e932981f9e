-- Whether eight bytes are left, and what they are.
use mathlib.Core.Path.{◌≡◌, refl, sym}
use mathlib.Core.Bool.{Bool, true, false}
use mathlib.Core.List.{List}
use Prim.Native.Nat.{ℕ}
use native.Mathlib.Omega.{arith}
use lib.ListN.{length}
use borrow.Author.Tests.{leb-true}
use Rattle.std.specs.declared.option.Option.TheVariants.{Some, None}
use Rattle.word.specs.Choice.{if}
use Rattle.word.specs.Number.{eight_at, eight}
use Rattle.word.proofs.Bytes.{length_eight}

module _ (s : List ℕ) (at : ℕ) where
  pub none_left : if (eight_at s at) (Some (eight s at)) None ≡ None → eight_at s at ≡ false
  none_left e = go (eight_at s at) e
    where
      go : (t : Bool) → if t (Some (eight s at)) None ≡ None → t ≡ false
      go true q = absurd (let z : ◌≡◌ {A = ℕ} 0 1 = cc in omega arith)
      go false q = refl

  pub some_left : {b : List ℕ} → if (eight_at s at) (Some (eight s at)) None ≡ Some b → (eight_at s at ≡ true) × (length (eight s at) ≡ 8) × (b ≡ eight s at)
  some_left {b} e = go (eight_at s at) refl e
    where
      go : (t : Bool) → eight_at s at ≡ t → if t (Some (eight s at)) None ≡ Some b → (eight_at s at ≡ true) × (length (eight s at) ≡ 8) × (b ≡ eight s at)
      go true p q = let z : eight s at ≡ b = cc in (p, length_eight s at (leb-true _ _ p), sym z)
      go false p q = absurd (let z : ◌≡◌ {A = ℕ} 0 1 = cc in omega arith)
