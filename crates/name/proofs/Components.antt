-- The components of a name, by what stands in the whole of it. Assumes nothing.
use mathlib.Core.Path.{◌≡◌, refl}
use mathlib.Core.Bool.{Bool, true, false, not, ◌&&◌, ◌||◌, and-true, and-false}
use mathlib.Core.List.{List, [], ◌∷◌, ◌++◌, append_assoc, append-nil}
use Prim.Native.Nat.{ℕ, ◌+◌, ◌≤◌, ◌<◌}
use native.Mathlib.Numerals.{add-one}
use native.Mathlib.Omega.{arith}
use borrow.Author.Tests.{eqb-true, not-true, le-leb}
use lib.Dec.{leb, eqb}
use lib.ListN.{length, get_or, take, drop, drop_of_length-le}
use lib.Seq.{drop-cons, take-suc, take_all, take-length}
use Rattle.parse.specs.Choice.{if}
use Rattle.parse.specs.Split.{on_first}
use Rattle.compare.specs.Prefix.{begins, same}
use Rattle.name.specs.Words.{contains, ends, all}
use Rattle.name.specs.Name.{dot, dot_lock, components, no_component_begins_with_dot, no_component_ends_with_lock}
use Rattle.name.proofs.Bools.{and_left, and_right, not_or}

-- ---- the first component, and those behind the slashes

abbrev pub front : List ℕ → List ℕ
front [] = []
front (b ∷ s) = if (eqb b 47) [] (b ∷ front s)

abbrev pub behind : List ℕ → List (List ℕ)
behind [] = []
behind (b ∷ s) = if (eqb b 47) (front s ∷ behind s) (behind s)

pub parted : (s : List ℕ) → components s ≡ front s ∷ behind s
parted [] = refl
parted (b ∷ s) = rw (parted s) (go (eqb b 47))
  where
    go : (t : Bool) → if t ([] ∷ (front s ∷ behind s)) (on_first b (front s ∷ behind s)) ≡ if t [] (b ∷ front s) ∷ if t (front s ∷ behind s) (behind s)
    go true = refl
    go false = refl

-- ---- where a component begins: at the front, or behind a slash

front_dot : (s : List ℕ) → begins dot (front s) ≡ begins dot s
front_dot [] = refl
front_dot (b ∷ s) = go (eqb b 47) refl
  where
    go : (t : Bool) → eqb b 47 ≡ t → begins dot (if t [] (b ∷ front s)) ≡ begins dot (b ∷ s)
    go true e = rw (eqb-true b 47 e)
    go false e = refl

dots_behind : (s : List ℕ) → all (λ c. not (begins dot c)) (behind s) ≡ not (contains (47 ∷ dot) s)
dots_behind [] = refl
dots_behind (b ∷ s) = go (eqb b 47) (dots_behind s)
  where
    go : (t : Bool) → all (λ c. not (begins dot c)) (behind s) ≡ not (contains (47 ∷ dot) s)
        → all (λ c. not (begins dot c)) (if t (front s ∷ behind s) (behind s)) ≡ not (t && begins dot s || contains (47 ∷ dot) s)
    go true rest = rw (front_dot s, rest, not_or)
    go false rest = rest

-- `contains (47 ∷ w) (47 ∷ s)` computes to `begins w s || contains (47 ∷ w) s`
pub no_dots : (s : List ℕ) → no_component_begins_with_dot s ≡ not (contains (47 ∷ dot) (47 ∷ s))
no_dots s = rw (parted s, front_dot s, dots_behind s, not_or)

-- ---- where a component ends: before a slash, or at the end

abbrev pub slashless : List ℕ → Bool
slashless w = all (λ a. not (eqb 47 a)) w

-- a string that has a slash is none of the words that have none
same_slash : (w p c : List ℕ) → slashless w ≡ true → same w (p ++ 47 ∷ c) ≡ false
same_slash [] [] c h = refl
same_slash [] (b ∷ p) c h = refl
same_slash (a ∷ w) [] c h = rw (not-true (eqb 47 a) (and_left (not (eqb 47 a)) (slashless w) h))
same_slash (a ∷ w) (b ∷ p) c h = rw (same_slash w p c (and_right (not (eqb 47 a)) (slashless w) h), and-false)

-- so such a word ends it exactly if it ends what stands behind the slash
ends_slash : (w p c : List ℕ) → slashless w ≡ true → ends w (p ++ 47 ∷ c) ≡ ends w c
ends_slash w [] c h = rw (same_slash w [] c h)
ends_slash w (b ∷ p) c h = rw (same_slash w (b ∷ p) c h) (ends_slash w p c h)

-- `.lock` ends a component of a name whose bytes p are read and whose bytes s are left: before a slash, or at the end
abbrev pub locked : List ℕ → List ℕ → Bool
locked p [] = ends dot_lock p
locked p (b ∷ s) = (eqb b 47 && ends dot_lock p) || locked (p ++ b ∷ []) s

locked_behind : (p s : List ℕ) → not (locked p s) ≡ (not (ends dot_lock (p ++ front s)) && all (λ c. not (ends dot_lock c)) (behind s))
locked_behind p [] = rw (append-nil p, and-true)
locked_behind p (b ∷ s) = go (eqb b 47) refl (locked_behind (p ++ b ∷ []) s)
  where
    go : (t : Bool) → eqb b 47 ≡ t
        → not (locked (p ++ b ∷ []) s) ≡ (not (ends dot_lock ((p ++ b ∷ []) ++ front s)) && all (λ c. not (ends dot_lock c)) (behind s))
        → not ((t && ends dot_lock p) || locked (p ++ b ∷ []) s)
        ≡ (not (ends dot_lock (p ++ if t [] (b ∷ front s))) && all (λ c. not (ends dot_lock c)) (if t (front s ∷ behind s) (behind s)))
    go true e rest = rw (append-nil p, not_or, rest, eqb-true b 47 e, append_assoc, ends_slash dot_lock p (front s) refl)
    go false e rest = rw (rest, append_assoc)

pub no_locks : (s : List ℕ) → no_component_ends_with_lock s ≡ not (locked [] s)
no_locks s = rw (parted s, locked_behind [] s)

-- ---- the same at a place of the name, by what `lock_before` promises

abbrev pub lock_before : List ℕ → ℕ → Bool
lock_before s at = leb at (length s) && ends dot_lock (take at s)

module _ (s : List ℕ) where
  pub locked_at : (i : ℕ) → i < length s
      → locked (take i s) (drop i s) ≡ ((eqb (get_or s i 0) 47 && lock_before s i) || locked (take (i + 1) s) (drop (i + 1) s))
  locked_at i h = rw (le-leb i (length s) (omega arith), drop-cons s i 0 h, add-one i, take-suc s i 0 h)

  pub locked_end : (i : ℕ) → length s ≤ i → locked (take i s) (drop i s) ≡ lock_before s (length s)
  locked_end i h = rw (le-leb (length s) (length s) (omega arith), drop_of_length-le s h, take_all i s h, take-length s)
