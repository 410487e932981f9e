-- A heap's leaves, the larger of two children, and the root, which is the largest. Over any strict total order.
use mathlib.Core.Path.{◌≡◌}
use mathlib.Core.Bool.{Bool}
use mathlib.Core.List.{List}
use mathlib.Core.Logic.{by_cases}
use Prim.Native.Nat.{ℕ, zero, suc, ◌+◌, ◌-◌, ◌*◌, ◌/◌, ◌≤◌, ◌<◌}
use native.Mathlib.Decide.{ℕ_discrete}
use native.Mathlib.Omega.{arith}
use lib.ListN.{get_or}
use Rattle.places.specs.Laws.{StrictOrder, NotBefore}
use Rattle.sort.specs.Heap.{Child, Heap, LargerChild}
use Rattle.sort.proofs.Orders.{not_before_trans}

pub leaves : (lt : ℕ → ℕ → Bool) (a : List ℕ) (n : ℕ) → Heap lt a (n / 2) n
leaves lt a n p c low ch m = absurd (omega arith)

module _ {lt : ℕ → ℕ → Bool} (o : StrictOrder lt) (a : List ℕ) where
  pub only_child : (k n : ℕ) → 2 * k + 1 < n → n ≤ 2 * k + 2 → LargerChild lt a k n (2 * k + 1)
  only_child k n h e =
      record {
        child = omega arith;
        within = h;
        largest = λ c ch m. let q : c ≡ 2 * k + 1 = omega arith in rw q (o.irreflexive (get_or a (2 * k + 1) 0));
      }

  -- r is the one child, s the other
  pub larger_of_two : (k n r s : ℕ) → Child k r → r < n → r + s ≡ 4 * k + 3 → NotBefore lt a r s → LargerChild lt a k n r
  larger_of_two k n r s child h e f =
      record {
        child = child;
        within = h;
        largest = λ c ch m.
            by_cases (ℕ_discrete c r)
            (λ q. rw q (o.irreflexive (get_or a r 0)))
            (λ nq. let q : c ≡ s = omega arith in rw q f);
      }

  top_by : (n : ℕ) → Heap lt a 0 n → (bound j : ℕ) → j ≤ bound → j < n → NotBefore lt a 0 j
  top_by n h zero j b m = let z : j ≡ 0 = omega arith in rw z (o.irreflexive (get_or a 0 0))
  top_by n h (suc bound) j b m =
      by_cases (ℕ_discrete j 0)
      (λ z. rw z (o.irreflexive (get_or a 0 0)))
      (λ nz.
      let p : ℕ = (j - 1) / 2 in
      let up = h p j (omega arith) (omega arith) m in
      not_before_trans o (get_or a 0 0) (get_or a p 0) (get_or a j 0) (top_by n h bound p (omega arith) (omega arith)) up)

  pub top : (n : ℕ) → Heap lt a 0 n → (j : ℕ) → j < n → NotBefore lt a 0 j
  top n h j m = top_by n h j j (omega arith) m
