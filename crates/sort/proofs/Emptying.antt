-- A heap is emptied from its root, until the whole list is in order. Over any strict total order.
use mathlib.Core.Path.{◌≡◌, ◌∙◌}
use mathlib.Core.Bool.{Bool}
use mathlib.Core.List.{List}
use mathlib.Core.Logic.{by_cases}
use Prim.Native.Nat.{ℕ, ◌-◌, ◌≤◌, ◌<◌}
use native.Mathlib.Decide.{ℕ_discrete, dec_lt}
use native.Mathlib.Omega.{arith}
use lib.ListN.{length}
use Rattle.sort.specs.Sorted.{sorted}
use Rattle.places.specs.Laws.{StrictOrder, NotBefore}
use Rattle.std.specs.List.{swap}
use Rattle.sort.specs.Heap.{Heap, Moved}
use Rattle.sort.proofs.Heaps.{top}
use Rattle.sort.proofs.Sorting.{only_order}
use Rattle.sort.proofs.Swaps.{Exchanged, exchanged, stayed, moved_none, moved_twice, moved_more}

-- the entries from m on stand where they belong
abbrev pub InPlace : (ℕ → ℕ → Bool) → List ℕ → ℕ → Type 0
InPlace lt a m = (i j : ℕ) → i < j → m ≤ j → j < length a → NotBefore lt a j i

-- of the list l, which is a by now, the first n entries are left in the heap
pub record Emptying (lt : ℕ → ℕ → Bool) (l a : List ℕ) (n : ℕ) : Type 0 where
  pub room : n ≤ length a
  pub moved : Moved l a (length l)
  pub heap : Heap lt a 0 n
  pub in_place : InPlace lt a n

pub emptying_start : (lt : ℕ → ℕ → Bool) (l : List ℕ) → Heap lt l 0 (length l) → Emptying lt l l (length l)
emptying_start lt l h =
    record {
      room = omega arith;
      moved = moved_none l (length l);
      heap = h;
      in_place = λ i j b e f. absurd (omega arith);
    }

module _ {lt : ℕ → ℕ → Bool} (o : StrictOrder lt) (l a : List ℕ) (n : ℕ) (e : Emptying lt l a n) where
  -- l is itself some list with its entries moved
  pub emptying_end : n ≤ 1 → (entry : List ℕ) (k : ℕ) → Moved entry l k → a ≡ sorted lt entry
  emptying_end one entry k p =
      only_order o entry a
      (
      record {
        ascending = λ i j b m. e.in_place i j b (omega arith) m;
        permutation = λ x. e.moved.permutation x ∙ p.permutation x;
      }
      )

  -- the root and the last entry of the heap change places
  module _ (some : 1 < n) (b : List ℕ) (is : b ≡ swap a 0 (n - 1)) where
    x : Exchanged 0 (n - 1) a b
    x = exchanged a 0 (n - 1) (omega arith) (omega arith) (omega arith) b is

    moved : Moved a b (length l)
    moved = x.moved (length l) (omega arith) (omega arith)

    pub heap_left : Heap lt b 1 (n - 1)
    heap_left p c low ch m =
        cc (e.heap p c (omega arith) ch (omega arith), x.other p (omega arith) (omega arith), x.other c (omega arith) (omega arith))

    root_in_place : InPlace lt b (n - 1)
    root_in_place i j h k f =
        let m : j < length a = omega (arith, moved.size) in
        let largest = top o a n e.heap in
        by_cases (ℕ_discrete j (n - 1))
        (λ last.
        by_cases (ℕ_discrete i 0)
        (λ first. cc (largest (n - 1) (omega arith), x.left, x.right))
        (λ no. cc (largest i (omega arith), x.right, x.other i no (omega arith))))
        (λ behind.
        let there = x.other j (omega arith) behind in
        by_cases (ℕ_discrete i 0)
        (λ first. cc (e.in_place (n - 1) j (omega arith) (omega arith) m, x.left, there))
        (λ no.
        by_cases (ℕ_discrete i (n - 1))
        (λ last. cc (e.in_place 0 j (omega arith) (omega arith) m, x.right, there))
        (λ front. cc (e.in_place i j h (omega arith) m, x.other i no front, there))))

    -- and what is left of the heap is made one again
    module _ (c : List ℕ) (p : Moved b c (n - 1)) where
      still_in_place : InPlace lt c (n - 1)
      still_in_place i j h k f =
          let there = stayed b c (n - 1) j p k in
          by_cases (dec_lt i (n - 1))
          (λ front.
          let from = p.from i front in
          cc (root_in_place from.0 j (omega arith) k (omega arith), from.2, there))
          (λ back. cc (root_in_place i j h k (omega arith), stayed b c (n - 1) i p (omega arith), there))

      pub emptying_turn : Heap lt c 0 (n - 1) → Emptying lt l c (n - 1)
      emptying_turn h =
          let m = moved_more b c (n - 1) (length l) (omega arith) p in
          record {
            room = omega (arith, moved.size);
            moved = moved_twice l a c (length l) e.moved (moved_twice a b c (length l) moved m);
            heap = h;
            in_place = still_in_place;
          }
