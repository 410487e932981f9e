-- An entry rises in a heap: it changes places with its parent while that comes before it. Over any strict total order.
use mathlib.Core.Path.{◌≡◌}
use mathlib.Core.Bool.{Bool, true}
use mathlib.Core.List.{List}
use mathlib.Core.Logic.{by_cases}
use Prim.Native.Nat.{ℕ, ◌+◌, ◌*◌, ◌≤◌, ◌<◌}
use native.Mathlib.Decide.{ℕ_discrete}
use native.Mathlib.Omega.{arith}
use lib.ListN.{length, get_or}
use Rattle.places.specs.Laws.{StrictOrder, NotBefore}
use Rattle.std.specs.List.{swap}
use Rattle.sort.specs.Heap.{Child, Heap, HeapBut, Moved}
use Rattle.sort.proofs.Orders.{not_back, not_before_trans}
use Rattle.sort.proofs.Swaps.{Exchanged, exchanged, moved_none, moved_twice}

-- in the list l, which is a by now, the entry has risen to k: only its parent may come before it
pub record Up (lt : ℕ → ℕ → Bool) (l a : List ℕ) (root n k : ℕ) : Type 0 where
  pub within : k < n
  pub heap : HeapBut lt a root n k
  pub children : (c : ℕ) → Child k c → c < n → NotBefore lt a k c
  pub moved : Moved l a n

pub up_start : (lt : ℕ → ℕ → Bool) (l : List ℕ) (root n leaf : ℕ) → leaf < n → n ≤ 2 * leaf + 1 → HeapBut lt l root n leaf → Up lt l l root n leaf
up_start lt l root n leaf h e heap =
    record { within = h; heap = heap; children = λ c ch m. absurd (omega arith); moved = moved_none l n }

module _ {lt : ℕ → ℕ → Bool} (o : StrictOrder lt) (l a : List ℕ) (root n k : ℕ) (up : Up lt l a root n k) where
  -- no entry from root on is its parent
  pub up_end : k ≤ 2 * root → Heap lt a root n
  up_end e p c low ch m =
      by_cases (ℕ_discrete p k)
      (λ pk. cc (up.children c (omega arith) m))
      (λ npk. up.heap.edge p c low ch m npk (omega arith))

  module _ (q : ℕ) (parent : Child q k) where
    pub up_stop : NotBefore lt a q k → Heap lt a root n
    up_stop e p c low ch m =
        by_cases (ℕ_discrete p k)
        (λ pk. cc (up.children c (omega arith) m))
        (λ npk.
        by_cases (ℕ_discrete c k)
        (λ ck. let pq : p ≡ q = omega arith in cc)
        (λ nck. up.heap.edge p c low ch m npk nck))

    module _ (b : List ℕ) (low : root ≤ q) (before : lt (get_or a q 0) (get_or a k 0) ≡ true) where
      hole : Exchanged q k a b → HeapBut lt b root n q
      hole x =
          let h = up.heap in
          record {
            edge = λ p c lo ch m np nc.
                by_cases (ℕ_discrete p k)
                (λ pk. cc (h.over q c low parent (omega arith) m, x.right, x.other c nc (omega arith)))
                (λ npk. cc (h.edge p c lo ch m npk (omega arith), x.other p np npk, x.other c nc (omega arith)));
            over = λ p c lo above ch m.
                let pq = h.edge p q lo above (omega arith) (omega arith) (omega arith) in
                let same = x.other p (omega arith) (omega arith) in
                by_cases (ℕ_discrete c k)
                (λ ck. cc (pq, same, x.right))
                (λ nck.
                let qc = h.edge q c low ch m (omega arith) nck in
                cc (not_before_trans o (get_or a p 0) (get_or a q 0) (get_or a c 0) pq qc, same, x.other c (omega arith) nck));
          }

      children : Exchanged q k a b → (c : ℕ) → Child q c → c < n → NotBefore lt b q c
      children x c ch m =
          let kq = not_back o (get_or a q 0) (get_or a k 0) before in
          by_cases (ℕ_discrete c k)
          (λ ck. cc (kq, x.left, x.right))
          (λ nck.
          let qc = up.heap.edge q c low ch m (omega arith) nck in
          cc (not_before_trans o (get_or a k 0) (get_or a q 0) (get_or a c 0) kq qc, x.left, x.other c (omega arith) nck))

      pub up_step : n ≤ length l → b ≡ swap a q k → Up lt l b root n q
      up_step room e =
          let x = exchanged a q k (omega arith) (omega arith) (omega arith) b e in
          record {
            within = omega arith;
            heap = hole x;
            children = children x;
            moved = moved_twice l a b n up.moved (x.moved n (omega arith) up.within);
          }
