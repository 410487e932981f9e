-- Coming first is a strict total order, whatever names the places have.
use mathlib.Core.Path.{◌≡◌, refl, sym, ap, ◌∙◌}
use mathlib.Core.Bool.{true, false, ◌&&◌, ◌||◌, true≢false}
use mathlib.Core.List.{List}
use Prim.Native.Nat.{ℕ, ◌<◌}
use native.Mathlib.Omega.{arith}
use lib.Dec.{ltb}
use borrow.Author.Tests.{ltb-true, ltb-false, lt-ltb, le-ltb}
use Rattle.std.proofs.lemmas.Bool.Decides.{nat_tests}
use Rattle.compare.specs.Order.{order_of, is_less}
use Rattle.compare.proofs.Orders.{order_refl, order_equal, is_equal, same_by_order, turned, order_turned, less_trans}
use Rattle.places.specs.Order.{before}
use Rattle.places.specs.Laws.{StrictOrder}
use Rattle.std.specs.Ordering.{is_lt, ordering_then, nat_cmp}
use Rattle.std.specs.declared.cmp.Ordering.{Ordering}
use Rattle.std.specs.declared.cmp.Ordering.TheVariants.{Equal, Greater, Less}

module _ (name : ℕ → List ℕ) where
  -- what the order of the names says
  pub before_by : (p q : ℕ) (o : Ordering) → order_of (name p) (name q) ≡ o → before name p q ≡ (is_less o || (is_equal o && ltb p q))
  unfolding before
  before_by p q o e = rw (same_by_order (name p) (name q), e)

  -- the same in the words of `Ordering`
  pub before_then : (p q : ℕ) → before name p q ≡ is_lt (ordering_then (order_of (name p) (name q)) (nat_cmp p q))
  before_then p q = before_by p q _ refl ∙ go (order_of (name p) (name q))
    where
      by_place : ltb p q ≡ is_lt (nat_cmp p q)
      by_place = grind (arith, nat_tests)

      go : (o : Ordering) → (is_less o || (is_equal o && ltb p q)) ≡ is_lt (ordering_then o (nat_cmp p q))
      go Less = refl
      go Equal = by_place
      go Greater = refl

  -- why a place comes first
  data First (p q : ℕ) : Type 0 where
    by_name : order_of (name p) (name q) ≡ Less → First p q
    by_place : name p ≡ name q → p < q → First p q

  is_first : (p q : ℕ) → First p q → before name p q ≡ true
  is_first p q (by_name e) = before_by p q Less e
  is_first p q (by_place e h) = before_by p q Equal (ap (order_of (name p)) (sym e) ∙ order_refl (name p)) ∙ lt-ltb p q h

  first : (p q : ℕ) → before name p q ≡ true → First p q
  first p q h = go (order_of (name p) (name q)) refl
    where
      go : (o : Ordering) → order_of (name p) (name q) ≡ o → First p q
      go Less e = by_name e
      go Equal e = by_place (order_equal (name p) (name q) e) (ltb-true p q (sym (before_by p q Equal e) ∙ h))
      go Greater e = absurd (true≢false (sym h ∙ before_by p q Greater e))

  first_trans : (p q r : ℕ) → First p q → First q r → First p r
  first_trans p q r (by_name e) (by_name f) = by_name (less_trans (name p) (name q) (name r) e f)
  first_trans p q r (by_name e) (by_place f k) = by_name (ap (order_of (name p)) (sym f) ∙ e)
  first_trans p q r (by_place e h) (by_name f) = by_name (ap (λ (a : List ℕ). order_of a (name r)) e ∙ f)
  first_trans p q r (by_place e h) (by_place f k) = by_place (e ∙ f) (omega arith)

  same_place : (p q : ℕ) → before name p q ≡ false → before name q p ≡ false → p ≡ q
  same_place p q h k = go (order_of (name p) (name q)) refl
    where
      go : (o : Ordering) → order_of (name p) (name q) ≡ o → p ≡ q
      go Less e = absurd (true≢false (sym (before_by p q Less e) ∙ h))
      go Equal e =
          let f = order_turned (name p) (name q) ∙ ap turned e in
          omega (arith, ltb-false p q (sym (before_by p q Equal e) ∙ h), ltb-false q p (sym (before_by q p Equal f) ∙ k))
      go Greater e = absurd (true≢false (sym (before_by q p Less (order_turned (name p) (name q) ∙ ap turned e)) ∙ k))

  pub places_ordered : StrictOrder (before name)
  places_ordered =
      record {
        irreflexive = λ p. before_by p p Equal (order_refl (name p)) ∙ le-ltb p p (omega arith);
        transitive = λ p q r h k. is_first p r (first_trans p q r (first p q h) (first q r k));
        total = same_place;
      }
