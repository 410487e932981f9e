-- What the search comes to in a body that passes the check: the record of the name, or no record has it and every probe read a name.
use mathlib.Core.Path.{◌≡◌, refl, sym, ap, ◌∙◌}
use mathlib.Core.Bool.{Bool, true, false}
use mathlib.Core.List.{List}
use Prim.Native.Nat.{ℕ, ◌≤◌, ◌<◌}
use native.Mathlib.Omega.{arith}
use lib.Dec.{ltb}
use lib.ListN.{length}
use borrow.Author.Tests.{ltb-true, ltb-false}
use Rattle.class.specs.Class.{paper}
use Rattle.compare.specs.Order.{order_of}
use Rattle.compare.proofs.Orders.{order_refl, order_equal}
use Rattle.iter.specs.Items.{Item, name_of}
use Rattle.iter.specs.Stands.{Stands}
use Rattle.search.specs.Search.{halve, order_at, failure_at, placed, search_of, missed}
use Rattle.find.proofs.Checked.{Checked}
use Rattle.find.proofs.Outcome.{Outcome, found, parted, outcome}
use Rattle.find.proofs.Sides.{side, own_side, ascends}
use Rattle.std.specs.declared.cmp.Ordering.TheVariants.{Equal, Greater, Less}
use Rattle.std.specs.declared.result.Result.{Result}
use Rattle.std.specs.declared.result.Result.TheVariants.{Ok}
use Rattle.search.specs.declared.Miss.{Miss}

module _ {n : ℕ} {s : List ℕ} (c : Checked n s) (wanted : List ℕ) where
  abbrev halved : Result ℕ Miss
  halved = halve (order_at paper n s wanted) (failure_at paper n s wanted) (length s) 0 (length s) false

  pub halves : Outcome (order_at paper n s wanted) (length s) halved
  halves = outcome (order_at paper n s wanted) (failure_at paper n s wanted) (length s) (ascends c wanted)

  -- no record of the name lies on either side of a place that parts them
  nobody : {low : ℕ} → ((p : ℕ) → p < low → order_at paper n s wanted p ≡ Less) → ((p : ℕ) → low ≤ p → p < length s → order_at paper n s wanted p ≡ Greater)
      → (b : ℕ) (x : Item) → Stands paper n s b x → name_of n x ≡ wanted → ⊥
  nobody {low} below above b x h e = go (ltb b low) refl
    where
      equal : order_at paper n s wanted b ≡ Equal
      equal = (own_side c wanted h).1 ∙ ap (λ (w : List ℕ). order_of w wanted) e ∙ order_refl wanted

      go : (t : Bool) → ltb b low ≡ t → ⊥
      go true t = let z : ◌≡◌ {A = ℕ} 0 1 = cc (below b (ltb-true b low t), equal) in omega arith
      go false t = let z : ◌≡◌ {A = ℕ} 0 1 = cc (above b (ltb-false b low t) (own_side c wanted h).0, equal) in omega arith

  pub data Searched : Type 0 where
    hit : {place : ℕ} {it : Item} → Stands paper n s place it → name_of n it ≡ wanted → search_of paper n s wanted ≡ Ok place → Searched
    miss : {place : ℕ} → ((b : ℕ) (x : Item) → Stands paper n s b x → name_of n x ≡ wanted → ⊥) → search_of paper n s wanted ≡ missed place false → Searched

  pub searched : Searched
  unfolding search_of
  searched = go halved refl halves
    where
      go : (r : Result ℕ Miss) → halved ≡ r → Outcome (order_at paper n s wanted) (length s) r → Searched
      go r q (found m l e) =
          let x = side c wanted m l in
          hit x.stands (order_equal (name_of n x.it) wanted (sym x.says ∙ e)) (ap (placed paper n s wanted) q)
      go r q (parted low l below above) = miss (nobody below above) (ap (placed paper n s wanted) q)
