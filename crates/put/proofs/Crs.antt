-- Bytes without any CR: their length, more of them behind each other, and piece by piece.
use mathlib.Core.Path.{◌≡◌, refl, ap}
use mathlib.Core.Bool.{Bool, true, false, not, false≢true}
use mathlib.Core.List.{List, [], ◌∷◌, ◌++◌}
use Prim.Native.Nat.{ℕ, suc, ◌≤◌, ◌<◌}
use native.Mathlib.Omega.{arith}
use lib.Dec.{eqb}
use lib.ListN.{length, get_or, take, drop}
use Rattle.parse.specs.Choice.{if}
use Rattle.parse.specs.Run.{span}
use Rattle.put.specs.Cr.{not_cr, without_cr}

pub without_append : (s t : List ℕ) → without_cr (s ++ t) ≡ without_cr s ++ without_cr t
without_append [] t = refl
without_append (b ∷ s) t = go (eqb b 13) (without_append s t)
  where
    go : (c : Bool) → without_cr (s ++ t) ≡ without_cr s ++ without_cr t
        → if c (without_cr (s ++ t)) (b ∷ without_cr (s ++ t)) ≡ if c (without_cr s) (b ∷ without_cr s) ++ without_cr t
    go true e = e
    go false e = ap (λ l. b ∷ l) e

pub length_without : (s : List ℕ) → length (without_cr s) ≤ length s
length_without [] = omega arith
length_without (b ∷ s) = go (eqb b 13) (length_without s)
  where
    go : (c : Bool) → length (without_cr s) ≤ length s → length (if c (without_cr s) (b ∷ without_cr s)) ≤ suc (length s)
    go true h = omega arith
    go false h = omega arith

-- the piece before the first CR, and what follows that CR
pub without_piece : (s : List ℕ) → without_cr s ≡ take (span not_cr s) s ++ without_cr (drop (suc (span not_cr s)) s)
without_piece [] = refl
without_piece (b ∷ s) = go (eqb b 13) (without_piece s)
  where
    go : (c : Bool) → without_cr s ≡ take (span not_cr s) s ++ without_cr (drop (suc (span not_cr s)) s)
        → if c (without_cr s) (b ∷ without_cr s)
        ≡ take (if (not c) (suc (span not_cr s)) 0) (b ∷ s) ++ without_cr (drop (suc (if (not c) (suc (span not_cr s)) 0)) (b ∷ s))
    go true e = refl
    go false e = ap (λ l. b ∷ l) e

pub without_none : (s : List ℕ) → ((i : ℕ) → i < length s → not_cr (get_or s i 0) ≡ true) → without_cr s ≡ s
without_none [] all = refl
without_none (b ∷ s) all = go (eqb b 13) (all 0 (omega arith)) (without_none s (λ i h. all (suc i) (omega arith)))
  where
    go : (c : Bool) → not c ≡ true → without_cr s ≡ s → if c (without_cr s) (b ∷ without_cr s) ≡ b ∷ s
    go true n e = absurd (false≢true n)
    go false n e = ap (λ l. b ∷ l) e

-- a run of bytes whose test no CR passes
pub without_run : (p : ℕ → Bool) → ((b : ℕ) → p b ≡ true → not_cr b ≡ true)
    → (s : List ℕ) → without_cr (take (span p s) s) ≡ take (span p s) s
without_run p none [] = refl
without_run p none (b ∷ s) = go (p b) refl (without_run p none s)
  where
    kept : (c : Bool) → not c ≡ true → (l : List ℕ) → without_cr l ≡ l → if c (without_cr l) (b ∷ without_cr l) ≡ b ∷ l
    kept true n l e = absurd (false≢true n)
    kept false n l e = ap (λ l. b ∷ l) e

    go : (c : Bool) → p b ≡ c → without_cr (take (span p s) s) ≡ take (span p s) s
        → without_cr (take (if c (suc (span p s)) 0) (b ∷ s)) ≡ take (if c (suc (span p s)) 0) (b ∷ s)
    go true e h = kept (eqb b 13) (none b e) (take (span p s) s) h
    go false e h = refl
