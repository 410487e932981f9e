-- Runs at a place of a list: at the end, at a byte that fails the test, at one that passes. For any test.
use mathlib.Core.Path.{◌≡◌, refl, ap, ◌∙◌}
use mathlib.Core.Bool.{Bool, true, false, not, cond}
use mathlib.Core.List.{List, [], ◌∷◌}
use Prim.Native.Nat.{ℕ, zero, suc, ◌+◌, ◌≤◌, ◌<◌}
use native.Mathlib.Nat.{add-zero, add-suc}
use native.Mathlib.Numerals.{add-one}
use native.Mathlib.Omega.{arith}
use lib.Dec.{ltb, eqb}
use lib.ListN.{length, get_or, drop, length-drop, drop_of_length-le}
use lib.Seq.{drop-cons}
use borrow.Author.Tests.{ltb-false}
use Rattle.std.specs.List.{position_or_len}
use Rattle.std.specs.Option.{unwrap_or}
use Rattle.std.proofs.lemmas.List.Recursion.{is_position_or_len}
use Rattle.std.specs.declared.option.Option.{Option}
use Rattle.std.specs.declared.option.Option.TheVariants.{Some, None}
use Rattle.word.specs.Low.{first_low_at}
use Rattle.word.proofs.Lows.{first_low_run}
use Rattle.parse.specs.Choice.{if}
use Rattle.parse.specs.Run.{span, before}
use Rattle.parse.specs.Line.{line_len}

module _ (p : ℕ → Bool) (s : List ℕ) (i : ℕ) where
  pub span_end : length s ≤ i → span p (drop i s) ≡ 0
  span_end h = rw (drop_of_length-le s h)

  pub span_stop : i < length s → p (get_or s i 0) ≡ false → span p (drop i s) ≡ 0
  span_stop h e = rw (drop-cons s i 0 h, e)

  pub span_go : i < length s → p (get_or s i 0) ≡ true → i + span p (drop i s) ≡ (i + 1) + span p (drop (i + 1) s)
  span_go h e = rw (drop-cons s i 0 h, e, add-one i) (omega arith)

-- what stays alike over each of n steps is alike behind them
steps : (f : ℕ → ℕ) (i n : ℕ) → ((k : ℕ) → k < n → f (i + k) ≡ f (i + k + 1)) → f i ≡ f (i + n)
steps f i zero each = rw add-zero
steps f i (suc n) each = steps f i n (λ k l. each k (omega arith)) ∙ each n (omega arith) ∙ rw (add-suc i n, add-one (i + n))

-- bytes that pass the test are passed over
pub skip : (p : ℕ → Bool) (s : List ℕ) (i n : ℕ) → i + n ≤ length s → ((k : ℕ) → k < n → p (get_or s (i + k) 0) ≡ true)
    → i + span p (drop i s) ≡ (i + n) + span p (drop (i + n) s)
skip p s i n h all = steps (λ j. j + span p (drop j s)) i n (λ k l. span_go p s (i + k) (omega arith) (all k l))

-- a look at eight bytes that tells of them: eight are left, and those before the low one pass a test that only low bytes fail
pub look_left : (s : List ℕ) (i : ℕ) {n : ℕ} → first_low_at s i ≡ Some n → (i + 8 ≤ length s) × (n ≤ 8)
look_left s i e = let (left, within, none) = first_low_run s i e in (left, within)

pub look_skip : (p : ℕ → Bool) → ((b : ℕ) → 14 ≤ b → p b ≡ true) → (s : List ℕ) (i : ℕ) {n : ℕ} → first_low_at s i ≡ Some n
    → i + span p (drop i s) ≡ (i + n) + span p (drop (i + n) s)
look_skip p high s i {n} e =
    let (left, within, none) = first_low_run s i e in
    skip p s i n (omega arith) (λ k l. high (get_or s (i + k) 0) (none k l))

pub span_le : (p : ℕ → Bool) (s : List ℕ) → span p s ≤ length s
span_le p [] = omega arith
span_le p (b ∷ s) = go (p b) (span_le p s)
  where
    go : (c : Bool) → span p s ≤ length s → if c (suc (span p s)) 0 ≤ suc (length s)
    go true h = omega arith
    go false h = omega arith

-- bytes that are not b are passed over
pub before_skip : (b : ℕ) (s : List ℕ) (i n : ℕ) → i + n ≤ length s → ((k : ℕ) → k < n → eqb (get_or s (i + k) 0) b ≡ false)
    → i + before b (drop i s) ≡ (i + n) + before b (drop (i + n) s)
before_skip b s i n h none = skip (λ c. not (eqb c b)) s i n h (λ k l. ap not (none k l))

-- what std's search tells: where the first stands that passes a test, or that none does
pub span_found : (t : ℕ → Bool) (s : List ℕ) {r : Option ℕ} {n : ℕ} → r ≡ cond (ltb (position_or_len t s) (length s)) (Some (position_or_len t s)) None
    → n ≡ unwrap_or r (length s) → n ≡ span (λ b. not (t b)) s
span_found t s {r} {n} f g = g ∙ rw f position
  where
    span_of : List ℕ → ℕ
    span_of l = span (λ b. not (t b)) l

    step : (l : List ℕ) (c : Bool) → if (not c) (suc (span_of l)) 0 ≡ cond c 0 (1 + span_of l)
    step l true = refl
    step l false = omega arith

    same : span_of s ≡ position_or_len t s
    same = is_position_or_len span_of t refl (λ b r. step r (t b)) s

    end : (c : Bool) → ltb (span_of s) (length s) ≡ c → unwrap_or (cond c (Some (span_of s)) None) (length s) ≡ span_of s
    end true q = refl
    end false q = omega (arith, ltb-false (span_of s) (length s) q, span_le (λ b. not (t b)) s)

    position : unwrap_or (cond (ltb (position_or_len t s) (length s)) (Some (position_or_len t s)) None) (length s) ≡ span_of s
    position = rw (← same) (end (ltb (span_of s) (length s)) refl)

-- a line reaches one byte behind the bytes before its LF, where there is one
pub line_reach : (s : List ℕ) → (before 10 s < length s → line_len s ≡ before 10 s + 1) × (length s ≤ before 10 s → line_len s ≡ before 10 s)
line_reach [] = (λ h. absurd (omega arith), λ h. refl)
line_reach (b ∷ s) = go (eqb b 10) (line_reach s)
  where
    go : (c : Bool) → (before 10 s < length s → line_len s ≡ before 10 s + 1) × (length s ≤ before 10 s → line_len s ≡ before 10 s)
        → (if (not c) (suc (before 10 s)) 0 < suc (length s) → if c 1 (suc (line_len s)) ≡ if (not c) (suc (before 10 s)) 0 + 1)
        × (suc (length s) ≤ if (not c) (suc (before 10 s)) 0 → if c 1 (suc (line_len s)) ≡ if (not c) (suc (before 10 s)) 0)
    go true h = (λ l. omega arith, λ l. absurd (omega arith))
    go false h = (λ l. omega (arith, h.0 (omega arith)), λ l. omega (arith, h.1 (omega arith)))

pub line_behind : (s : List ℕ) (at : ℕ) → at + before 10 (drop at s) < length s → at + line_len (drop at s) ≡ at + before 10 (drop at s) + 1
line_behind s at h = omega (arith, (line_reach (drop at s)).0 (omega (arith, length-drop at s)))

pub line_last : (s : List ℕ) (at : ℕ) → length s ≤ at + before 10 (drop at s) → at + line_len (drop at s) ≡ at + before 10 (drop at s)
line_last s at h = omega (arith, (line_reach (drop at s)).1 (omega (arith, length-drop at s)))
