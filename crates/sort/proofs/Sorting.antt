-- `sorted` is the list in order, and nothing else is. Over any strict total order.
use mathlib.Core.Path.{◌≡◌, refl, sym, ap, ◌∙◌, subst}
use mathlib.Core.Bool.{Bool, true, false}
use mathlib.Core.List.{List, [], ◌∷◌}
use Prim.Native.Nat.{ℕ, suc, ◌+◌, ◌<◌}
use native.Mathlib.Omega.{arith}
use lib.Dec.{eqb}
use lib.ListN.{length}
use borrow.Author.Tests.{eq-eqb, eqb-true}
use Rattle.parse.specs.Choice.{if}
use Rattle.class.specs.Class.{bit}
use Rattle.sort.specs.Sorted.{insert, sorted}
use Rattle.places.specs.Laws.{StrictOrder, count, Permutation, InOrder}
use Rattle.sort.proofs.Orders.{NotAfter, not_back, not_before_trans}
use Rattle.sort.proofs.Pairs.{Each, each_map, Pairs, pairs_at, pairs_by}

-- ---- what holds of each entry holds of each in order, and there are as many

module _ (lt : ℕ → ℕ → Bool) where
  each_insert : (P : ℕ → Type 0) (x : ℕ) (l : List ℕ) → P x → Each P l → Each P (insert lt x l)
  each_insert P x [] h e = (h, tt)
  each_insert P x (y ∷ l) h e = go (each_insert P x l h e.1) (lt y x)
    where
      go : Each P (insert lt x l) → (t : Bool) → Each P (if t (y ∷ insert lt x l) (x ∷ y ∷ l))
      go rest true = (e.0, rest)
      go rest false = (h, e)

  pub each_sorted : (P : ℕ → Type 0) (l : List ℕ) → Each P l → Each P (sorted lt l)
  unfolding sorted
  each_sorted P [] e = tt
  each_sorted P (x ∷ l) e = each_insert P x (sorted lt l) e.0 (each_sorted P l e.1)

  length_insert : (x : ℕ) (l : List ℕ) → length (insert lt x l) ≡ suc (length l)
  length_insert x [] = refl
  length_insert x (y ∷ l) = go (lt y x) (length_insert x l)
    where
      go : (t : Bool) → length (insert lt x l) ≡ suc (length l) → length (if t (y ∷ insert lt x l) (x ∷ y ∷ l)) ≡ suc (suc (length l))
      go true e = ap suc e
      go false e = refl

  pub length_sorted : (l : List ℕ) → length (sorted lt l) ≡ length l
  unfolding sorted
  length_sorted [] = refl
  length_sorted (x ∷ l) = length_insert x (sorted lt l) ∙ ap suc (length_sorted l)

module _ {lt : ℕ → ℕ → Bool} (o : StrictOrder lt) where
  -- ---- `sorted` is in order

  pairs_insert : (x : ℕ) (l : List ℕ) → Pairs (NotAfter lt) l → Pairs (NotAfter lt) (insert lt x l)
  pairs_insert x [] p = (tt, tt)
  pairs_insert x (y ∷ l) p = go (pairs_insert x l p.1) (lt y x) refl
    where
      go : Pairs (NotAfter lt) (insert lt x l) → (t : Bool) → lt y x ≡ t → Pairs (NotAfter lt) (if t (y ∷ insert lt x l) (x ∷ y ∷ l))
      go rest true e = (each_insert lt (NotAfter lt y) x l (not_back o y x e) p.0, rest)
      go rest false e =
          ((e, each_map (NotAfter lt y) (NotAfter lt x) (λ z h. not_before_trans o z y x h e) l p.0), p)

  pairs_sorted : (l : List ℕ) → Pairs (NotAfter lt) (sorted lt l)
  unfolding sorted
  pairs_sorted [] = tt
  pairs_sorted (x ∷ l) = pairs_insert x (sorted lt l) (pairs_sorted l)

  count_insert : (z x : ℕ) (l : List ℕ) → count z (insert lt x l) ≡ bit (eqb z x) + count z l
  count_insert z x [] = refl
  count_insert z x (y ∷ l) = go (count_insert z x l) (lt y x)
    where
      go : count z (insert lt x l) ≡ bit (eqb z x) + count z l → (t : Bool)
          → count z (if t (y ∷ insert lt x l) (x ∷ y ∷ l)) ≡ bit (eqb z x) + (bit (eqb z y) + count z l)
      go rest true = omega arith
      go rest false = refl

  permutation_sorted : (l : List ℕ) → Permutation (sorted lt l) l
  unfolding sorted
  permutation_sorted [] z = refl
  permutation_sorted (x ∷ l) z = count_insert z x (sorted lt l) ∙ ap (λ (n : ℕ). bit (eqb z x) + n) (permutation_sorted l z)

  pub sorted_in_order : (l : List ℕ) → InOrder lt l (sorted lt l)
  sorted_in_order l =
      record { ascending = pairs_at (NotAfter lt) (sorted lt l) (pairs_sorted l); permutation = permutation_sorted l }

  -- ---- two lists in order with the same entries are one

  counted : (P : ℕ → Type 0) (x : ℕ) (l : List ℕ) → Each P l → 0 < count x l → P x
  counted P x [] e h = absurd (omega arith)
  counted P x (y ∷ l) e h = go (counted P x l e.1) (eqb x y) refl
    where
      go : (0 < count x l → P x) → (t : Bool) → eqb x y ≡ t → P x
      go rest true q = subst P (sym (eqb-true x y q)) e.0
      go rest false q = rest (omega (arith, h, ap bit q))

  here : (x : ℕ) (l : List ℕ) → 0 < count x (x ∷ l)
  here x l = rw (eq-eqb x x refl) (omega arith)

  pub one_order : (a b : List ℕ) → Pairs (NotAfter lt) a → Pairs (NotAfter lt) b → Permutation a b → a ≡ b
  one_order [] [] p q h = refl
  one_order [] (y ∷ b) p q h = absurd (omega (arith, h y, here y b))
  one_order (x ∷ a) [] p q h = absurd (omega (arith, h x, here x a))
  one_order (x ∷ a) (y ∷ b) p q h =
      let first = counted (NotAfter lt y) x (y ∷ b) (o.irreflexive y, q.0) (omega (arith, h x, here x a)) in
      let second = counted (NotAfter lt x) y (x ∷ a) (o.irreflexive x, p.0) (omega (arith, h y, here y b)) in
      let e : x ≡ y = o.total x y first second in
      let rest : Permutation a b = λ z. omega (arith, h z, ap (λ (v : ℕ). bit (eqb z v)) e) in
      λ i. e i ∷ one_order a b p.1 q.1 rest i

  pub only_order : (l a : List ℕ) → InOrder lt l a → a ≡ sorted lt l
  only_order l a h =
      one_order a (sorted lt l) (pairs_by (NotAfter lt) a h.ascending) (pairs_sorted l)
      (λ z. h.permutation z ∙ sym (permutation_sorted l z))
