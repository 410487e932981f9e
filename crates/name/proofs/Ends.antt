-- Where a word that ends a string stands: its own length before the end. And so `.lock`, by places. Assumes nothing.
use mathlib.Core.Path.{◌≡◌, refl, ap, ◌∙◌}
use mathlib.Core.Bool.{Bool, true, false, ◌&&◌, and-true, and-false, or-false, and_assoc}
use mathlib.Core.List.{List, [], ◌∷◌}
use Prim.Native.Nat.{ℕ, zero, suc, ◌+◌, ◌≤◌, ◌<◌}
use native.Mathlib.Nat.{add-zero}
use native.Mathlib.Numerals.{towards_suc}
use native.Mathlib.Omega.{arith}
use borrow.Author.Tests.{leb-true}
use lib.Dec.{eqb, leb}
use lib.ListN.{length, get_or, take, drop}
use lib.Seq.{length-take-le, slice-cons, slice_empty}
use Rattle.compare.specs.Prefix.{same}
use Rattle.name.specs.Words.{ends}
use Rattle.name.specs.Name.{dot_lock}

-- only strings of one length are the same
same_length : (w s : List ℕ) → (length w ≡ length s → ⊥) → same w s ≡ false
same_length [] [] d = absurd (d refl)
same_length [] (b ∷ s) d = refl
same_length (a ∷ w) [] d = refl
same_length (a ∷ w) (b ∷ s) d = rw (same_length w s (λ e. d (ap suc e)), and-false)

-- no word ends a shorter string
ends_short : (w s : List ℕ) → length s < length w → ends w s ≡ false
ends_short w [] h = same_length w [] (omega arith)
ends_short w (b ∷ s) h = rw (same_length w (b ∷ s) (omega arith)) (ends_short w s (omega arith))

ends_place : (w s : List ℕ) (k : ℕ) → k + length w ≡ length s → ends w s ≡ same w (drop k s)
ends_place w [] zero h = refl
ends_place w [] (suc k) h = absurd (omega arith)
ends_place w (b ∷ s) zero h = rw (ends_short w s (omega arith), or-false)
ends_place w (b ∷ s) (suc k) h = rw (same_length w (b ∷ s) (omega arith)) (ends_place w s k (omega arith))

-- w stands in s from the place k on, byte by byte
abbrev stands : List ℕ → List ℕ → ℕ → Bool
stands [] s k = true
stands (a ∷ w) s k = eqb (get_or s k 0) a && stands w s (suc k)

-- before a place of a string
module _ (s : List ℕ) (at : ℕ) (fits : at ≤ length s) where
  same_stands : (w : List ℕ) (k : ℕ) → k + length w ≡ at → same w (drop k (take at s)) ≡ stands w s k
  same_stands [] k h = rw (← h, add-zero k, slice_empty k s)
  same_stands (a ∷ w) k h = rw (slice-cons k at s 0 (omega arith) fits, same_stands w (suc k) (omega arith))

  ends_stands : (w : List ℕ) (k : ℕ) → k + length w ≡ at → ends w (take at s) ≡ stands w s k
  ends_stands w k h = ends_place w (take at s) k (rw (length-take-le at s fits) h) ∙ same_stands w k h

  pub lock_short : at < 5 → ends dot_lock (take at s) ≡ false
  lock_short h = ends_short dot_lock (take at s) (rw (length-take-le at s fits) h)

  pub lock_stands : (k : ℕ) → k + 5 ≡ at
      → ends dot_lock (take at s)
      ≡ eqb (get_or s k 0) 46
      && eqb (get_or s (k + 1) 0) 108
      && eqb (get_or s (k + 2) 0) 111
      && eqb (get_or s (k + 3) 0) 99
      && eqb (get_or s (k + 4) 0) 107
  lock_stands k h = rw (ends_stands dot_lock k h) (simp (towards_suc, and-true, and_assoc))

-- beyond the end, or right behind fewer than five bytes, it stands nowhere
pub lock_nowhere : (s : List ℕ) (at : ℕ) → (at ≤ length s → at < 5) → (leb at (length s) && ends dot_lock (take at s)) ≡ false
lock_nowhere s at h = go (leb at (length s)) refl
  where
    go : (t : Bool) → leb at (length s) ≡ t → (t && ends dot_lock (take at s)) ≡ false
    go true e = let fits = leb-true at (length s) e in lock_short s at fits (h fits)
    go false e = refl
