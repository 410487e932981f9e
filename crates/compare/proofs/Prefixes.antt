-- Beginning with other bytes, and being the same bytes, as the library has them; being the same is being equal.
use mathlib.Core.Path.{◌≡◌, refl, sym, ◌∙◌}
use mathlib.Core.Bool.{Bool, true, false, and-eq-true_iff}
use mathlib.Core.List.{List, [], ◌∷◌}
use Prim.Native.Nat.{ℕ}
use lib.Dec.{eqb}
use lib.ListN.{length, take}
use borrow.Author.Tests.{eqb-true, eqb-false, eq-eqb, ne_eqb}
use Rattle.std.specs.Prelude.{nat_eq}
use Rattle.std.specs.Cmp.Lexicographic.{pointwise}
use Rattle.compare.specs.Prefix.{begins, same}

-- the library's `starts_with` and `==` say the same
pub begins_by_library : (w s : List ℕ) → pointwise nat_eq w (take (length w) s) ≡ begins w s
begins_by_library [] s = refl
begins_by_library (a ∷ w) [] = refl
begins_by_library (a ∷ w) (b ∷ s) = rw (begins_by_library w s, turn (eqb a b) refl)
  where
    turn : (t : Bool) → eqb a b ≡ t → eqb a b ≡ eqb b a
    turn true e = e ∙ sym (eq-eqb b a (sym (eqb-true a b e)))
    turn false e = e ∙ sym (ne_eqb b a (λ k. eqb-false a b e (sym k)))

pub same_by_library : (w s : List ℕ) → pointwise nat_eq s w ≡ same w s
same_by_library [] [] = refl
same_by_library [] (b ∷ s) = refl
same_by_library (a ∷ w) [] = refl
same_by_library (a ∷ w) (b ∷ s) = rw (same_by_library w s)

-- being the same is being equal
pub same_is : (w s : List ℕ) → same w s ≡ true → s ≡ w
same_is [] [] h = refl
same_is [] (b ∷ s) h = cc
same_is (a ∷ w) [] h = cc
same_is (a ∷ w) (b ∷ s) h =
    let (first, rest) = (and-eq-true_iff (eqb b a) (same w s)).0 h in
    cc (eqb-true b a first, same_is w s rest)

pub same_self : (w : List ℕ) → same w w ≡ true
same_self [] = refl
same_self (a ∷ w) = rw (eq-eqb a a refl) (same_self w)
