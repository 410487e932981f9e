-- The shape of a record: what stands there where it holds, and that its name lies inside the bytes.
use mathlib.Core.Path.{◌≡◌, refl}
use mathlib.Core.Bool.{Bool, true, false, not}
use mathlib.Core.List.{List}
use Prim.Native.Nat.{ℕ, ◌+◌, ◌-◌, ◌≤◌, ◌<◌}
use native.Mathlib.Omega.{arith}
use lib.Dec.{ltb}
use lib.ListN.{get_or, length, drop, length-drop}
use borrow.Author.Tests.{ltb-true, ltb-false}
use Rattle.class.specs.Class.{Classes}
use Rattle.parse.specs.Part.{byte_at}
use Rattle.parse.specs.Line.{eol, text_len}
use Rattle.parse.proofs.Runs.{span_le}
use Rattle.parse.proofs.Views.{ByteView, there, not_there, byte_view, text_end, TextView, text, no_text, text_view}
use Rattle.probe.specs.Shape.{shape_of}
use Rattle.std.specs.declared.option.Option.TheVariants.{None, Some}

module _ (byte : Classes) (n : ℕ) (s : List ℕ) where
  -- the length of the text behind n bytes and one more
  abbrev pub shape_len : ℕ
  shape_len = text_len byte (drop (n + 1) s)

  -- a space, non-empty text, a line end
  pub record Shaped : Type 0 where
    pub space : get_or s n 0 ≡ 32
    pub some : 0 < shape_len
    pub end : 0 < eol (drop (text_end byte s (n + 1)) s)

  pub data ShapeView : Type 0 where
    named : n < length s → Shaped → shape_of byte n s ≡ Some shape_len → ShapeView
    shapeless : (Shaped → ⊥) → shape_of byte n s ≡ None → ShapeView

  behind_space : n < length s → get_or s n 0 ≡ 32 → byte_at 32 s n ≡ Some (n + 1) → TextView byte s (n + 1) → (t : Bool) → ltb (n + 1) (text_end byte s (n + 1)) ≡ t → ShapeView
  unfolding shape_of
  behind_space l b e (no_text z f) t q = shapeless (λ h. omega (arith, h.end)) (rw (e, f))
  behind_space l b e (text some f) false q = shapeless (λ h. omega (arith, h.some, ltb-false (n + 1) (text_end byte s (n + 1)) q)) (rw (e, f, q))
  behind_space l b e (text some f) true q =
      let k : text_end byte s (n + 1) - (n + 1) ≡ shape_len = omega arith in
      let long = ltb-true (n + 1) (text_end byte s (n + 1)) q in
      named l (record { space = b; some = omega arith; end = some }) (rw (e, f, q, k))

  pub shape_view : ShapeView
  unfolding shape_of
  shape_view = go (byte_view 32 (omega arith) s n)
    where
      go : ByteView 32 s n → ShapeView
      go (not_there other e) = shapeless (λ h. other h.space) (rw e)
      go (there l b e) = behind_space l b e (text_view byte s (n + 1)) (ltb (n + 1) (text_end byte s (n + 1))) refl

  pub shape_fits : (k : ℕ) → shape_of byte n s ≡ Some k → n + 1 + k ≤ length s
  shape_fits k e = go shape_view
    where
      go : ShapeView → n + 1 + k ≤ length s
      go (named l h f) =
          let z : k ≡ shape_len = cc in
          omega (arith, span_le (λ b. not (byte.line_end b)) (drop (n + 1) s), length-drop (n + 1) s)
      go (shapeless h f) = absurd (let z : ◌≡◌ {A = ℕ} 0 1 = cc in omega arith)
