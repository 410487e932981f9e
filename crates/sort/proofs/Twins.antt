-- The first twin, pair by pair; a twin that is found is one; names in order with no twin rise, and are all different.
use mathlib.Core.Path.{◌≡◌, refl, sym, ap, ◌∙◌}
use mathlib.Core.Bool.{true≢false}
use mathlib.Core.List.{List, [], ◌∷◌}
use Prim.Native.Nat.{ℕ, suc, ◌+◌, ◌≤◌, ◌<◌}
use native.Mathlib.Omega.{arith}
use lib.ListN.{length, get_or, take, drop}
use Rattle.parse.specs.Choice.{if}
use Rattle.compare.specs.Order.{order_of}
use Rattle.compare.proofs.Orders.{order_refl, order_equal, is_equal, same_by_order, turned, order_turned, less_trans}
use Rattle.places.specs.Order.{before}
use Rattle.compare.specs.Prefix.{same}
use Rattle.places.specs.Laws.{Ordered, NamesRise, AllDifferent, HasTwin}
use Rattle.sort.specs.Twin.{twin_behind, first_twin}
use Rattle.sort.proofs.Orders.{NotAfter}
use Rattle.sort.proofs.Pairs.{each_map, Pairs, pairs_at, pairs_by}
use Rattle.places.proofs.Places.{before_by}
use Rattle.std.specs.declared.cmp.Ordering.{Ordering}
use Rattle.std.specs.declared.cmp.Ordering.TheVariants.{Equal, Greater, Less}
use Rattle.std.specs.declared.option.Option.TheVariants.{None, Some}

module _ (name : ℕ → List ℕ) where
  -- ---- pair by pair

  -- fewer than two entries are no pair
  pub no_pair_left : (l : List ℕ) (size : ℕ) → size ≡ 2 → length l < size → first_twin name l ≡ None
  unfolding first_twin
  no_pair_left [] size e h = refl
  no_pair_left (p ∷ []) size e h = refl
  no_pair_left (p ∷ q ∷ l) size e h = absurd (omega arith)

  -- the two in front, or the first twin behind the first
  pub twin_in_front : (l pair : List ℕ) (size : ℕ) → size ≡ 2 → size ≤ length l → pair ≡ take size l
      → first_twin name l
      ≡ if (same (name (get_or pair 0 0)) (name (get_or pair 1 0))) (Some (get_or pair 1 0)) (first_twin name (drop 1 l))
  unfolding first_twin
  twin_in_front [] pair size two h e = absurd (omega arith)
  twin_in_front (p ∷ []) pair size two h e = absurd (omega arith)
  twin_in_front (p ∷ q ∷ l) pair size two h e = rw (e, two)

  -- ---- a twin that is found is one

  twin_behind_lem : (p : ℕ) (l : List ℕ) (q : ℕ) → twin_behind name p l ≡ Some q → HasTwin name (p ∷ l) q
  twin_behind_lem p [] q found = absurd (let z : ◌≡◌ {A = ℕ} 0 1 = cc in omega arith)
  twin_behind_lem p (r ∷ l) q found = go (twin_behind_lem r l q) (order_of (name p) (name r)) refl (rw (same_by_order (name p) (name r)) at found)
    where
      on : HasTwin name (r ∷ l) q → HasTwin name (p ∷ r ∷ l) q
      on t =
          let e : suc t.at + 1 ≡ suc (t.at + 1) = omega arith in
          record { at = suc t.at; within = omega arith; there = rw e t.there; same_name = t.same_name }

      go : (twin_behind name r l ≡ Some q → HasTwin name (r ∷ l) q) → (o : Ordering) → order_of (name p) (name r) ≡ o
          → if (is_equal o) (Some r) (twin_behind name r l) ≡ Some q
          → HasTwin name (p ∷ r ∷ l) q
      go rest Less e t = on (rest t)
      go rest Equal e t =
          let rq : r ≡ q = cc in
          record { at = 0; within = omega arith; there = rq; same_name = order_equal (name p) (name r) e ∙ ap name rq }
      go rest Greater e t = on (rest t)

  pub is_twin : (l : List ℕ) (p : ℕ) → first_twin name l ≡ Some p → HasTwin name l p
  unfolding first_twin
  is_twin [] p found = absurd (let z : ◌≡◌ {A = ℕ} 0 1 = cc in omega arith)
  is_twin (q ∷ l) p found = twin_behind_lem q l p found

  -- ---- in order and with no twin

  abbrev Rises : ℕ → ℕ → Type 0
  Rises p q = order_of (name p) (name q) ≡ Less

  rising : (p : ℕ) (l : List ℕ) → Pairs (NotAfter (before name)) (p ∷ l) → twin_behind name p l ≡ None → Pairs Rises (p ∷ l)
  rising p [] s none = (tt, tt)
  rising p (q ∷ l) s none = go (rising q l s.1) (order_of (name p) (name q)) refl (rw (same_by_order (name p) (name q)) at none)
    where
      go : (twin_behind name q l ≡ None → Pairs Rises (q ∷ l)) → (o : Ordering) → order_of (name p) (name q) ≡ o
          → if (is_equal o) (Some q) (twin_behind name q l) ≡ None
          → Pairs Rises (p ∷ q ∷ l)
      go rest Less e t =
          let r = rest t in
          ((e, each_map (Rises q) (Rises p) (λ z f. less_trans (name p) (name q) (name z) e f) l r.0), r)
      go rest Equal e t = absurd (let z : ◌≡◌ {A = ℕ} 0 1 = cc in omega arith)
      go rest Greater e t =
          absurd
          (true≢false (sym (before_by name q p Less (order_turned (name p) (name q) ∙ ap turned e)) ∙ s.0.0))

  all_rising : (l : List ℕ) → Pairs (NotAfter (before name)) l → first_twin name l ≡ None → Pairs Rises l
  unfolding first_twin
  all_rising [] s none = tt
  all_rising (p ∷ l) s none = rising p l s none

  pub names_rise : (l : List ℕ) → Ordered (before name) l → first_twin name l ≡ None → NamesRise name l
  names_rise l s none = pairs_at Rises l (all_rising l (pairs_by (NotAfter (before name)) l s) none)

  pub all_different : (l : List ℕ) → Ordered (before name) l → first_twin name l ≡ None → AllDifferent name l
  all_different l s none i j h k e =
      let less = names_rise l s none i j h k in
      let level = ap (order_of (name (get_or l i 0))) (sym e) ∙ order_refl (name (get_or l i 0)) in
      let z : ◌≡◌ {A = ℕ} 0 1 = cc in
      omega arith
