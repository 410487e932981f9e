-- Where a line ends, from a place on: at the end, at an LF, behind a byte that is none, and behind many.
use mathlib.Core.Path.{◌≡◌, ◌∙◌}
use mathlib.Core.Bool.{true, false}
use mathlib.Core.List.{List}
use Prim.Native.Nat.{ℕ, zero, suc, ◌+◌, ◌≤◌, ◌<◌}
use native.Mathlib.Nat.{add-zero, add-suc}
use native.Mathlib.Numerals.{add-one}
use native.Mathlib.Omega.{arith}
use lib.Dec.{eqb}
use lib.ListN.{length, get_or, drop, drop_of_length-le}
use lib.Seq.{drop-cons}
use Rattle.parse.specs.Line.{line_len}

module _ (s : List ℕ) (i : ℕ) where
  pub line_end_lem : length s ≤ i → line_len (drop i s) ≡ 0
  line_end_lem h = rw (drop_of_length-le s h)

  pub line_stop : i < length s → eqb (get_or s i 0) 10 ≡ true → line_len (drop i s) ≡ 1
  line_stop h e = rw (drop-cons s i 0 h, e)

  pub line_go : i < length s → eqb (get_or s i 0) 10 ≡ false → i + line_len (drop i s) ≡ (i + 1) + line_len (drop (i + 1) s)
  line_go h e = rw (drop-cons s i 0 h, e, add-one i) (omega arith)

-- what stays alike over each of n steps is alike behind them
steps : (f : ℕ → ℕ) (i n : ℕ) → ((k : ℕ) → k < n → f (i + k) ≡ f (i + k + 1)) → f i ≡ f (i + n)
steps f i zero each = rw add-zero
steps f i (suc n) each = steps f i n (λ k l. each k (omega arith)) ∙ each n (omega arith) ∙ rw (add-suc i n, add-one (i + n))

-- bytes that are no LF are passed over
pub line_skip : (s : List ℕ) (i n : ℕ) → i + n ≤ length s → ((k : ℕ) → k < n → eqb (get_or s (i + k) 0) 10 ≡ false)
    → i + line_len (drop i s) ≡ (i + n) + line_len (drop (i + n) s)
line_skip s i n h all = steps (λ j. j + line_len (drop j s)) i n (λ k l. line_go s (i + k) (omega arith) (all k l))
