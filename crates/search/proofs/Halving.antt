-- One turn of halving, and what a loop that halves keeps. For any probes.
use mathlib.Core.Path.{◌≡◌, refl, sym, ap, ◌∙◌}
use mathlib.Core.Bool.{Bool, true, false, ◌||◌}
use Prim.Native.Nat.{ℕ, zero, suc, pred, ◌+◌, ◌≤◌, ◌<◌}
use native.Mathlib.Omega.{arith}
use lib.Dec.{ltb}
use borrow.Author.Tests.{lt-ltb, le-ltb, ltb-true, ltb-false}
use Rattle.search.specs.Search.{middle, halve, missed}
use Rattle.std.specs.declared.cmp.Ordering.{Ordering}
use Rattle.std.specs.declared.cmp.Ordering.TheVariants.{Equal, Greater, Less}
use Rattle.std.specs.declared.result.Result.TheVariants.{Ok}

module _ (order : ℕ → Ordering) (failure : ℕ → Bool) where
  pub halve_done : (turns low high : ℕ) (failed : Bool) → high ≤ low → halve order failure turns low high failed ≡ missed low failed
  unfolding halve
  halve_done zero low high failed h = refl
  halve_done (suc turns) low high failed h = rw (le-ltb low high h, halve)

  module _ (low high : ℕ) (failed : Bool) (open! : low < high) where
    pub halve_less : (turns : ℕ) → high ≤ low + turns → order (middle low high) ≡ Less
        → halve order failure turns low high failed ≡ halve order failure (pred turns) (middle low high + 1) high (failed || failure (middle low high))
    unfolding halve
    halve_less zero g e = absurd (omega arith)
    halve_less (suc turns) g e = rw (lt-ltb low high open!, halve) (rw (e, halve))

    pub halve_greater : (turns : ℕ) → high ≤ low + turns → order (middle low high) ≡ Greater
        → halve order failure turns low high failed ≡ halve order failure (pred turns) low (middle low high) (failed || failure (middle low high))
    unfolding halve
    halve_greater zero g e = absurd (omega arith)
    halve_greater (suc turns) g e = rw (lt-ltb low high open!, halve) (rw (e, halve))

    pub halve_equal : (turns : ℕ) → high ≤ low + turns → order (middle low high) ≡ Equal → halve order failure turns low high failed ≡ Ok (middle low high)
    unfolding halve
    halve_equal zero g e = absurd (omega arith)
    halve_equal (suc turns) g e = rw (lt-ltb low high open!, halve) (rw (e, halve))

  -- between the turns: what is left to halve decides the whole
  pub record Going (len low high : ℕ) (failed : Bool) : Type 0 where
    pub turns : ℕ
    pub enough : high ≤ low + turns
    pub within : high ≤ len
    pub same : halve order failure turns low high failed ≡ halve order failure len 0 len false

  pub at_first : (len : ℕ) → Going len 0 len false
  at_first len = record { turns = len; enough = omega arith; within = omega arith; same = refl }

  module _ {len low high : ℕ} {failed : Bool} (g : Going len low high failed) where
    pub ended : high ≤ low → halve order failure len 0 len false ≡ missed low failed
    ended h = sym g.same ∙ halve_done g.turns low high failed h

    module _ (open! : low < high) where
      pub found_it : order (middle low high) ≡ Equal → halve order failure len 0 len false ≡ Ok (middle low high)
      found_it e = sym g.same ∙ halve_equal low high failed open! g.turns g.enough e

      pub to_right : order (middle low high) ≡ Less → Going len (middle low high + 1) high (failed || failure (middle low high))
      to_right e =
          record {
            turns = pred g.turns;
            enough = omega (arith, g.enough);
            within = g.within;
            same = sym (halve_less low high failed open! g.turns g.enough e) ∙ g.same;
          }

      pub to_left : order (middle low high) ≡ Greater → Going len low (middle low high) (failed || failure (middle low high))
      to_left e =
          record {
            turns = pred g.turns;
            enough = omega (arith, g.enough);
            within = omega (arith, g.within);
            same = sym (halve_greater low high failed open! g.turns g.enough e) ∙ g.same;
          }

  -- ---- a hit is a place of the wanted name

  pub hit_equal : (turns low high : ℕ) (failed : Bool) → high ≤ low + turns → (m : ℕ) → halve order failure turns low high failed ≡ Ok m → order m ≡ Equal
  hit_equal zero low high failed g m e = absurd (let h = sym (halve_done zero low high failed (omega arith)) ∙ e in let z : ◌≡◌ {A = ℕ} 0 1 = cc in omega arith)
  hit_equal (suc turns) low high failed g m e = go (ltb low high) refl (order (middle low high)) refl (hit_equal turns)
    where
      go : (t : Bool) → ltb low high ≡ t → (o : Ordering) → order (middle low high) ≡ o
          → ((l h : ℕ) (f : Bool) → h ≤ l + turns → (k : ℕ) → halve order failure turns l h f ≡ Ok k → order k ≡ Equal) → order m ≡ Equal
      go false p o q later = absurd (let h = sym (halve_done (suc turns) low high failed (ltb-false low high p)) ∙ e in let z : ◌≡◌ {A = ℕ} 0 1 = cc in omega arith)
      go true p Less q later =
          let w = ltb-true low high p in
          later (middle low high + 1) high (failed || failure (middle low high)) (omega arith) m (sym (halve_less low high failed w (suc turns) g q) ∙ e)
      go true p Equal q later =
          let h = sym (halve_equal low high failed (ltb-true low high p) (suc turns) g q) ∙ e in
          let z : middle low high ≡ m = cc in
          ap order (sym z) ∙ q
      go true p Greater q later =
          let w = ltb-true low high p in
          later low (middle low high) (failed || failure (middle low high)) (omega arith) m (sym (halve_greater low high failed w (suc turns) g q) ∙ e)
