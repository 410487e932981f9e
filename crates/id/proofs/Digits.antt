-- Whether all bytes of a list pass a test, asked in parts. For any test.
use mathlib.Core.Path.{◌≡◌, refl, sym, ap, ◌∙◌}
use mathlib.Core.Bool.{Bool, true, false, ◌&&◌, and-true}
use mathlib.Core.List.{List, [], ◌∷◌, ◌++◌}
use Prim.Native.Nat.{ℕ, zero, suc, ◌+◌, ◌-◌, ◌≤◌, ◌<◌}
use native.Mathlib.Numerals.{add-one}
use native.Mathlib.Omega.{arith}
use lib.Dec.{leb, leb-zero, leb-suc-zero, leb-suc-suc}
use lib.ListN.{length, get_or, take, drop, take-append-drop, length-drop, drop_of_length-le}
use lib.Seq.{drop-cons}
use Rattle.parse.specs.Choice.{if}
use Rattle.parse.specs.Run.{span}

module _ (p : ℕ → Bool) where
  abbrev pub all : List ℕ → Bool
  all s = leb (length s) (span p s)

  all_first : (b : ℕ) (s : List ℕ) → all (b ∷ s) ≡ (p b && all s)
  all_first b s = go (p b)
    where
      go : (t : Bool) → leb (suc (length s)) (if t (suc (span p s)) 0) ≡ (t && all s)
      go true = leb-suc-suc (length s) (span p s)
      go false = leb-suc-zero (length s)

  all_append : (s t : List ℕ) → all (s ++ t) ≡ (all s && all t)
  all_append [] t = refl
  all_append (b ∷ s) t =
      all_first b (s ++ t) ∙ ap (λ x. p b && x) (all_append s t) ∙ go (p b) ∙ ap (λ x. x && all t) (sym (all_first b s))
    where
      go : (c : Bool) → (c && (all s && all t)) ≡ ((c && all s) && all t)
      go true = refl
      go false = refl

  -- the first n bytes and those behind them
  pub in_parts : (n : ℕ) (s : List ℕ) → all s ≡ (all (take n s) && all (drop n s))
  in_parts n s = ap all (sym (take-append-drop n s)) ∙ all_append (take n s) (drop n s)

  in_front : (n : ℕ) (s : List ℕ) → n ≤ length s → leb n (span p s) ≡ all (take n s)
  in_front zero s h = leb-zero (span p s)
  in_front (suc n) [] h = absurd (omega arith)
  in_front (suc n) (b ∷ s) h = rw (all_first b (take n s)) (go (p b) (in_front n s (omega arith)))
    where
      go : (t : Bool) → leb n (span p s) ≡ all (take n s) → leb (suc n) (if t (suc (span p s)) 0) ≡ (t && all (take n s))
      go true e = leb-suc-suc n (span p s) ∙ e
      go false e = leb-suc-zero n

  pub in_slice : (s : List ℕ) (at n : ℕ) → at + n ≤ length s → leb n (span p (drop at s)) ≡ all (take (at + n - at) (drop at s))
  in_slice s at n h =
      let size : n ≡ at + n - at = omega arith in
      in_front n (drop at s) (omega (arith, length-drop at s)) ∙ ap (λ k. all (take k (drop at s))) size

  -- what was met so far, and the bytes that are left
  module _ (met : Bool) (s : List ℕ) (i : ℕ) where
    pub one_more : i < length s → ((met && p (get_or s i 0)) && all (drop (i + 1) s)) ≡ (met && all (drop i s))
    one_more h = rw (drop-cons s i 0 h, add-one i, all_first (get_or s i 0) (drop (suc i) s)) (go met)
      where
        go : (t : Bool) → ((t && p (get_or s i 0)) && all (drop (suc i) s)) ≡ (t && (p (get_or s i 0) && all (drop (suc i) s)))
        go true = refl
        go false = refl

    pub none_left : length s ≤ i → met ≡ (met && all (drop i s))
    none_left h = rw (drop_of_length-le s h, leb-zero 0, and-true)
