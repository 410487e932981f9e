-- The rules on components by the letters of the whole name hold. Assumes nothing.
use mathlib.Core.Path.{◌≡◌, refl}
use mathlib.Core.Bool.{Bool, true, false, not, ◌&&◌, ◌||◌, and_assoc, and_comm, and-or_distrib_left}
use mathlib.Core.List.{List, [], ◌∷◌, ◌++◌}
use Prim.Native.Nat.{ℕ}
use borrow.Author.Tests.{eqb-true, not-true}
use lib.Dec.{eqb}
use Rattle.parse.specs.Choice.{if}
use Rattle.compare.specs.Prefix.{begins, same}
use Rattle.name.specs.Words.{contains, ends, all}
use Rattle.name.specs.Name.{dot_lock}
use Rattle.name.specs.ByLetters.{dot_lock_slash, ByLetters}
use Rattle.name.proofs.Bools.{and_left, and_right, and_left_comm, not_or}
use Rattle.name.proofs.Components.{slashless, front, behind, parted, no_dots}

-- ---- a word without a slash is the first component exactly if it is all of the string, or a slash stands right behind it

same_front : (w s : List ℕ) → slashless w ≡ true → same w (front s) ≡ (same w s || begins (w ++ 47 ∷ []) s)
same_front [] [] h = refl
same_front [] (b ∷ s) h = go (eqb b 47)
  where
    go : (t : Bool) → same [] (if t [] (b ∷ front s)) ≡ (t && true)
    go true = refl
    go false = refl
same_front (a ∷ w) [] h = refl
same_front (a ∷ w) (b ∷ s) h = go (eqb b 47) refl (same_front w s (and_right (not (eqb 47 a)) (slashless w) h))
  where
    go : (t : Bool) → eqb b 47 ≡ t → same w (front s) ≡ (same w s || begins (w ++ 47 ∷ []) s)
        → same (a ∷ w) (if t [] (b ∷ front s)) ≡ ((eqb b a && same w s) || (eqb b a && begins (w ++ 47 ∷ []) s))
    go true e rest = rw (eqb-true b 47 e, not-true (eqb 47 a) (and_left (not (eqb 47 a)) (slashless w) h))
    go false e rest = rw rest (and-or_distrib_left (eqb b a) (same w s) (begins (w ++ 47 ∷ []) s))

-- ---- and it ends a component exactly if it ends the string, or a slash stands right behind it

locks_by_letters : (s : List ℕ)
    → (not (ends dot_lock (front s)) && all (λ c. not (ends dot_lock c)) (behind s)) ≡ not (ends dot_lock s || contains dot_lock_slash s)
locks_by_letters [] = refl
locks_by_letters (b ∷ s) = go (eqb b 47) refl (locks_by_letters s)
  where
    go : (t : Bool) → eqb b 47 ≡ t
        → (not (ends dot_lock (front s)) && all (λ c. not (ends dot_lock c)) (behind s)) ≡ not (ends dot_lock s || contains dot_lock_slash s)
        → (not (ends dot_lock (if t [] (b ∷ front s))) && all (λ c. not (ends dot_lock c)) (if t (front s ∷ behind s) (behind s)))
        ≡ not ((same dot_lock (b ∷ s) || ends dot_lock s) || (begins dot_lock_slash (b ∷ s) || contains dot_lock_slash s))
    go true e rest = rw (eqb-true b 47 e) rest
    go false e rest =
        let first : same dot_lock (b ∷ front s) ≡ (same dot_lock (b ∷ s) || begins dot_lock_slash (b ∷ s)) = rw e at (same_front dot_lock (b ∷ s) refl) in
        rw (first, not_or (same dot_lock (b ∷ s) || begins dot_lock_slash (b ∷ s)) (ends dot_lock (front s)), and_assoc, rest) (simp (not_or, and_assoc, and_comm, and_left_comm))

pub by_letters : (s : List ℕ) → ByLetters s
by_letters s = record { dots = no_dots s; locks = rw (parted s, locks_by_letters s) }
