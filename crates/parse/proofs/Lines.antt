-- The line end at a place, by the bytes that stand there; text, by the line end behind it.
use mathlib.Core.Path.{◌≡◌, ap}
use mathlib.Core.Bool.{◌&&◌, and-false}
use mathlib.Core.List.{List}
use Prim.Native.Nat.{ℕ, ◌+◌, ◌-◌, ◌≤◌, ◌<◌}
use native.Mathlib.Nat.{add-zero}
use lib.Dec.{eqb}
use lib.ListN.{get_or, drop, length, get_or-eq_default}
use lib.Seq.{get_or-drop}
use borrow.Author.Tests.{eq-eqb, ne_eqb}
use native.Mathlib.Omega.{arith}
use Rattle.parse.specs.Part.{then}
use Rattle.parse.specs.Choice.{if}
use Rattle.class.specs.Class.{Classes}
use Rattle.parse.specs.Line.{eol, newline_at, text_len, text_at, text_ends, ended}
use Rattle.std.specs.declared.option.Option.{Option}
use Rattle.std.specs.declared.option.Option.TheVariants.{None, Some}

module _ (s : List ℕ) (at : ℕ) where
  pub eol_at : eol (drop at s) ≡ if (eqb (get_or s at 0) 10) 1 (if (eqb (get_or s at 0) 13 && eqb (get_or s (at + 1) 0) 10) 2 0)
  unfolding eol
  eol_at = rw (get_or-drop at s 0 0, get_or-drop at s 1 0, add-zero)

  pub lf_there : get_or s at 0 ≡ 10 → newline_at s at ≡ Some (at + 1)
  unfolding newline_at
  lf_there e = simp (eol_at, eq-eqb _ _ e)

  pub crlf_there : get_or s at 0 ≡ 13 → get_or s (at + 1) 0 ≡ 10 → newline_at s at ≡ Some (at + 2)
  unfolding newline_at
  crlf_there e f = simp (eol_at, e, f)

  pub no_line_end : (get_or s at 0 ≡ 10 → ⊥) → (get_or s at 0 ≡ 13 → ⊥) → newline_at s at ≡ None
  unfolding newline_at
  no_line_end e f = simp (eol_at, ne_eqb _ _ e, ne_eqb _ _ f)

  pub no_lf_behind : (get_or s at 0 ≡ 10 → ⊥) → (get_or s (at + 1) 0 ≡ 10 → ⊥) → newline_at s at ≡ None
  unfolding newline_at
  no_lf_behind e f = simp (eol_at, ne_eqb _ _ e, ne_eqb _ _ f, and-false)

  pub no_second : length s - at < 2 → (get_or s at 0 ≡ 10 → ⊥) → newline_at s at ≡ None
  no_second l e = let none : get_or s (at + 1) 0 ≡ 0 = get_or-eq_default s 0 (omega arith) in no_lf_behind e (λ q. omega arith)

  pub beyond_end : length s ≤ at → newline_at s at ≡ None
  unfolding newline_at
  beyond_end h = simp (eol_at, get_or-eq_default s 0 h)

pub ruleset newlines = (lf_there, crlf_there, no_line_end, no_lf_behind, no_second, beyond_end)

module _ (byte : Classes) (s : List ℕ) (at end : ℕ) (e : end ≡ at + text_len byte (drop at s)) where
  pub text_ended : (next : ℕ) → newline_at s end ≡ Some next → text_at byte s at ≡ text_ends end next
  unfolding text_at
  text_ended next h = rw (← e, h)

  pub text_unended : newline_at s end ≡ None → text_at byte s at ≡ None
  unfolding text_at
  text_unended h = rw (← e, h)

-- of two texts that are the same, the ends and the places behind the line ends are the same
pub text_end_same : {end next end' next' : ℕ} → text_ends end next ≡ text_ends end' next' → end ≡ end'
text_end_same e = ap (λ t. ended t (λ end next. end) 0) e

pub text_next_same : {end next end' next' : ℕ} → text_ends end next ≡ text_ends end' next' → next ≡ next'
text_next_same e = ap (λ t. ended t (λ end next. next) 0) e

-- text ends no earlier than it begins
pub text_order : (byte : Classes) (s : List ℕ) (at : ℕ) {end next : ℕ} → text_at byte s at ≡ text_ends end next → at ≤ end
unfolding text_at
text_order byte s at {end} {next} h = go (newline_at s (at + text_len byte (drop at s))) h
  where
    go : (p : Option ℕ) → then p (λ k. text_ends (at + text_len byte (drop at s)) k) None ≡ text_ends end next → at ≤ end
    go (Some k) e = omega (arith, text_end_same e)
    go None e = absurd (let z : ◌≡◌ {A = ℕ} 0 1 = cc in omega arith)
