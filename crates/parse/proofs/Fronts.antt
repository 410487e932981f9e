-- What the front of a list says of runs, lines and line ends, whatever follows it.
use mathlib.Core.Path.{◌≡◌, refl, sym, ap, ◌∙◌}
use mathlib.Core.Bool.{Bool, true, false, not, ◌&&◌}
use mathlib.Core.List.{List, [], ◌∷◌, ◌++◌}
use Prim.Native.Nat.{ℕ, zero, suc, ◌+◌, ◌≤◌, ◌<◌}
use native.Mathlib.Omega.{arith}
use lib.Dec.{eqb}
use lib.ListN.{get_or, length, drop, get_or-append}
use borrow.Author.Tests.{eqb-true, ne_eqb}
use Rattle.parse.specs.Choice.{if}
use Rattle.class.specs.Class.{is_hex, is_line_end}
use Rattle.parse.specs.Run.{span}
use Rattle.parse.specs.Line.{eol, line_len}

-- ---- bytes

-- a byte that is not 0 stands inside s
pub at_drop : (b : ℕ) → 0 < b → (n : ℕ) (s : List ℕ) → get_or s n 0 ≡ b → drop n s ≡ b ∷ drop (suc n) s
at_drop b p n [] h = absurd (omega arith)
at_drop b p zero (c ∷ s) h = rw h
at_drop b p (suc n) (c ∷ s) h = at_drop b p n s h

pub same_at : (u r r' : List ℕ) (i : ℕ) → i < length u → get_or (u ++ r') i 0 ≡ get_or (u ++ r) i 0
same_at u r r' i h = get_or-append u r' 0 i h ∙ sym (get_or-append u r 0 i h)

-- ---- runs

-- a run that ends inside u ends there whatever follows
pub span_local : (p : ℕ → Bool) (u r r' : List ℕ) → span p (u ++ r) < length u → span p (u ++ r') ≡ span p (u ++ r)
span_local p [] r r' h = absurd (omega arith)
span_local p (b ∷ u) r r' h = go (p b) h (span_local p u r r')
  where
    go : (c : Bool) → if c (suc (span p (u ++ r))) 0 < suc (length u) → (span p (u ++ r) < length u → span p (u ++ r') ≡ span p (u ++ r))
        → if c (suc (span p (u ++ r'))) 0 ≡ if c (suc (span p (u ++ r))) 0
    go true k ih = ap suc (ih (omega arith))
    go false k ih = refl

-- a run of n bytes that lies in u is there whatever follows
pub span_ge : (p : ℕ → Bool) (n : ℕ) (u r r' : List ℕ) → n ≤ length u → n ≤ span p (u ++ r) → n ≤ span p (u ++ r')
span_ge p zero u r r' l h = omega arith
span_ge p (suc n) [] r r' l h = absurd (omega arith)
span_ge p (suc n) (b ∷ u) r r' l h = go (p b) h (span_ge p n u r r' (omega arith))
  where
    go : (c : Bool) → suc n ≤ if c (suc (span p (u ++ r))) 0 → (n ≤ span p (u ++ r) → n ≤ span p (u ++ r')) → suc n ≤ if c (suc (span p (u ++ r'))) 0
    go true k ih = let i : n ≤ span p (u ++ r') = ih (omega arith) in omega arith
    go false k ih = omega arith

-- ---- lines

pub line_len_le : (s : List ℕ) → line_len s ≤ length s
line_len_le [] = omega arith
line_len_le (b ∷ s) = go (eqb b 10) (line_len_le s)
  where
    go : (c : Bool) → line_len s ≤ length s → if c 1 (suc (line_len s)) ≤ suc (length s)
    go true h = omega arith
    go false h = omega arith

pub line_len_some : (s : List ℕ) → 0 < length s → 1 ≤ line_len s
line_len_some [] h = absurd (omega arith)
line_len_some (b ∷ s) h = go (eqb b 10)
  where
    go : (c : Bool) → 1 ≤ if c 1 (suc (line_len s))
    go true = omega arith
    go false = omega arith

-- a run without line feeds lies inside the first line
pub line_len_skip : (p : ℕ → Bool) → ((b : ℕ) → p b ≡ true → eqb b 10 ≡ false) → (k : ℕ) (s : List ℕ) → k ≤ span p s → line_len s ≡ k + line_len (drop k s)
line_len_skip p no10 zero s h = omega arith
line_len_skip p no10 (suc k) [] h = absurd (omega arith)
line_len_skip p no10 (suc k) (b ∷ s) h = go (p b) refl h (line_len_skip p no10 k s)
  where
    go : (c : Bool) → p b ≡ c → suc k ≤ if c (suc (span p s)) 0 → (k ≤ span p s → line_len s ≡ k + line_len (drop k s))
        → if (eqb b 10) 1 (suc (line_len s)) ≡ suc k + line_len (drop k s)
    go true e q ih = rw (no10 b e) (omega (arith, ih (omega arith)))
    go false e q ih = absurd (omega arith)

-- a line goes no further than a line feed
pub line_len_at : (u c : List ℕ) → line_len (u ++ 10 ∷ c) ≤ suc (length u)
line_len_at [] c = omega arith
line_len_at (b ∷ u) c = go (eqb b 10) (line_len_at u c)
  where
    go : (t : Bool) → line_len (u ++ 10 ∷ c) ≤ suc (length u) → if t 1 (suc (line_len (u ++ 10 ∷ c))) ≤ suc (suc (length u))
    go true h = omega arith
    go false h = omega arith

-- ---- line ends

-- what the front of s is where it has a line end
pub data Eol (s : List ℕ) : Type 0 where
  none : eol s ≡ 0 → Eol s
  lf : get_or s 0 0 ≡ 10 → eol s ≡ 1 → Eol s
  crlf : get_or s 0 0 ≡ 13 → get_or s 1 0 ≡ 10 → eol s ≡ 2 → Eol s

pub eol_view : (s : List ℕ) → Eol s
unfolding eol
eol_view s = go (eqb (get_or s 0 0) 10) (eqb (get_or s 0 0) 13) (eqb (get_or s 1 0) 10) refl refl refl
  where
    go : (a b c : Bool) → eqb (get_or s 0 0) 10 ≡ a → eqb (get_or s 0 0) 13 ≡ b → eqb (get_or s 1 0) 10 ≡ c → Eol s
    go true b c p q r = lf (eqb-true _ _ p) (rw p)
    go false true true p q r = crlf (eqb-true _ _ q) (eqb-true _ _ r) (rw (p, q, r))
    go false true false p q r = none (rw (p, q, r))
    go false false c p q r = none (rw (p, q))

pub eol_local : (u r r' : List ℕ) → 0 < eol (u ++ r) → eol (u ++ r) ≤ length u → eol (u ++ r') ≡ eol (u ++ r)
unfolding eol
eol_local [] r r' p l = absurd (omega arith)
eol_local (b ∷ []) r r' p l = go (eol_view (b ∷ r))
  where
    go : Eol (b ∷ r) → eol (b ∷ r') ≡ eol (b ∷ r)
    go (none e) = absurd (omega arith)
    go (lf h e) = rw h
    go (crlf h i e) = absurd (omega arith)
eol_local (b ∷ c ∷ u) r r' p l = refl

pub eol_le : (s : List ℕ) → eol s ≤ length s
unfolding eol
eol_le [] = omega arith
eol_le (b ∷ []) = go (eqb b 10) (eqb b 13)
  where
    go : (t v : Bool) → if t 1 (if (v && false) 2 0) ≤ 1
    go true v = omega arith
    go false true = omega arith
    go false false = omega arith
eol_le (b ∷ c ∷ s) = go (eol_view (b ∷ c ∷ s))
  where
    go : Eol (b ∷ c ∷ s) → eol (b ∷ c ∷ s) ≤ suc (suc (length s))
    go (none e) = omega arith
    go (lf h e) = omega arith
    go (crlf h i e) = omega arith

-- a line end ends the line
line_lf : (s : List ℕ) → get_or s 0 0 ≡ 10 → line_len s ≡ 1
line_lf [] h = absurd (omega arith)
line_lf (b ∷ s) h = rw h

line_crlf : (s : List ℕ) → get_or s 0 0 ≡ 13 → get_or s 1 0 ≡ 10 → line_len s ≡ 2
line_crlf [] h i = absurd (omega arith)
line_crlf (b ∷ []) h i = absurd (omega arith)
line_crlf (b ∷ c ∷ s) h i = rw (h, i)

pub eol_line : (s : List ℕ) → 0 < eol s → line_len s ≡ eol s
eol_line s p = go (eol_view s)
  where
    go : Eol s → line_len s ≡ eol s
    go (none e) = absurd (omega arith)
    go (lf h e) = omega (arith, line_lf s h)
    go (crlf h i e) = omega (arith, line_crlf s h i)

-- hex digits and text hold no line feed
pub hex_no10 : (b : ℕ) → is_hex b ≡ true → eqb b 10 ≡ false
unfolding is_hex
hex_no10 b h = ne_eqb b 10 (λ e. let z : is_hex 10 ≡ true = rw e at h in let w : ◌≡◌ {A = ℕ} 0 1 = cc in omega arith)

pub text_no10 : (b : ℕ) → not (is_line_end b) ≡ true → eqb b 10 ≡ false
unfolding is_line_end
text_no10 b h = ne_eqb b 10 (λ e. let z : not (is_line_end 10) ≡ true = rw e at h in let w : ◌≡◌ {A = ℕ} 0 1 = cc in omega arith)
