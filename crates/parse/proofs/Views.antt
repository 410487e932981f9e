-- What each part's answer says of the bytes at a place: one case for a part that was read, one for a part that was not.
use mathlib.Core.Path.{◌≡◌, refl, sym, ◌∙◌}
use mathlib.Core.Bool.{Bool, true, false}
use mathlib.Core.List.{List}
use Prim.Native.Nat.{ℕ, ◌+◌, ◌≤◌, ◌<◌}
use native.Mathlib.Omega.{arith}
use lib.Dec.{ltb, eqb}
use lib.ListN.{get_or, length, drop, length-drop, get_or-eq_default}
use borrow.Author.Tests.{ltb-true, ltb-false, eqb-true, eqb-false}
use Rattle.class.specs.Class.{Classes}
use Rattle.parse.specs.Part.{byte_at}
use Rattle.parse.specs.Line.{eol, newline_at, text_len, text_at, text_ends}
use Rattle.parse.proofs.Fronts.{eol_le}
use Rattle.parse.proofs.Lines.{text_end_same, text_next_same}
use Rattle.std.specs.declared.option.Option.TheVariants.{None, Some}

-- of a byte that is not 0, so that it stands inside
pub data ByteView (b : ℕ) (s : List ℕ) (at : ℕ) : Type 0 where
  there : at < length s → get_or s at 0 ≡ b → byte_at b s at ≡ Some (at + 1) → ByteView b s at
  not_there : (get_or s at 0 ≡ b → ⊥) → byte_at b s at ≡ None → ByteView b s at

pub byte_view : (b : ℕ) → 0 < b → (s : List ℕ) (at : ℕ) → ByteView b s at
unfolding byte_at
byte_view b some s at = go (ltb at (length s)) (eqb (get_or s at 0) b) refl refl
  where
    go : (t v : Bool) → ltb at (length s) ≡ t → eqb (get_or s at 0) b ≡ v → ByteView b s at
    go true true p q = there (ltb-true _ _ p) (eqb-true _ _ q) (rw (p, q))
    go true false p q = not_there (eqb-false _ _ q) (rw (p, q))
    go false v p q =
        let none : get_or s at 0 ≡ 0 = get_or-eq_default s 0 (ltb-false at (length s) p) in
        not_there (λ e. omega arith) (rw p)

pub data NewlineView (s : List ℕ) (at : ℕ) : Type 0 where
  newline : 0 < eol (drop at s) → newline_at s at ≡ Some (at + eol (drop at s)) → NewlineView s at
  no_newline : eol (drop at s) ≡ 0 → newline_at s at ≡ None → NewlineView s at

pub newline_view : (s : List ℕ) (at : ℕ) → NewlineView s at
unfolding newline_at
newline_view s at = go (ltb 0 (eol (drop at s))) refl
  where
    go : (t : Bool) → ltb 0 (eol (drop at s)) ≡ t → NewlineView s at
    go true e = newline (ltb-true _ _ e) (rw e)
    go false e = no_newline (omega (arith, ltb-false 0 (eol (drop at s)) e)) (rw e)

-- where text from a place on ends
abbrev pub text_end : Classes → List ℕ → ℕ → ℕ
text_end byte s at = at + text_len byte (drop at s)

pub data TextView (byte : Classes) (s : List ℕ) (at : ℕ) : Type 0 where
  text : 0 < eol (drop (text_end byte s at) s) → text_at byte s at ≡ text_ends (text_end byte s at) (text_end byte s at + eol (drop (text_end byte s at) s))
      → TextView byte s at
  no_text : eol (drop (text_end byte s at) s) ≡ 0 → text_at byte s at ≡ None → TextView byte s at

pub text_view : (byte : Classes) (s : List ℕ) (at : ℕ) → TextView byte s at
unfolding text_at
text_view byte s at = go (newline_view s (text_end byte s at))
  where
    go : NewlineView s (text_end byte s at) → TextView byte s at
    go (newline some e) = text some (rw e)
    go (no_newline none e) = no_text none (rw e)

-- text and its line end lie inside
pub text_inside : (byte : Classes) (s : List ℕ) (at : ℕ) {end next : ℕ} → text_at byte s at ≡ text_ends end next → (end < next) × (next ≤ length s)
text_inside byte s at {end} {next} e = go (text_view byte s at)
  where
    go : TextView byte s at → (end < next) × (next ≤ length s)
    go (text some f) =
        let p = text_end_same (sym f ∙ e) in
        let q = text_next_same (sym f ∙ e) in
        (omega arith, omega (arith, eol_le (drop (text_end byte s at) s), length-drop (text_end byte s at) s))
    go (no_text z f) = absurd (let x : ◌≡◌ {A = ℕ} 0 1 = cc in omega arith)
