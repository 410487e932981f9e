-- An entry comes down a heap: it changes places with its larger child, whichever of the two comes first. Over any test.
use mathlib.Core.Path.{◌≡◌}
use mathlib.Core.Bool.{Bool}
use mathlib.Core.List.{List}
use mathlib.Core.Logic.{by_cases}
use Prim.Native.Nat.{ℕ, ◌+◌, ◌≤◌, ◌<◌}
use native.Mathlib.Decide.{ℕ_discrete}
use native.Mathlib.Omega.{arith}
use lib.ListN.{length}
use Rattle.std.specs.List.{swap}
use Rattle.sort.specs.Heap.{Heap, HeapBut, LargerChild, Down}
use Rattle.sort.proofs.Swaps.{Exchanged, exchanged, moved_none, moved_twice}

module _ (lt : ℕ → ℕ → Bool) (l : List ℕ) (root n : ℕ) where
  pub down_start : root < n → Heap lt l (root + 1) n → Down lt l l root n root
  down_start h heap =
      record {
        low = omega arith;
        within = h;
        heap =
            record {
              edge = λ p c low ch m np nc. heap p c (omega arith) ch m;
              over = λ p c low up ch m. absurd (omega arith);
            };
        moved = moved_none l n;
      }

  module _ (a b : List ℕ) (k r : ℕ) (down : Down lt l a root n k) (larger : LargerChild lt a k n r) where
    hole : Exchanged k r a b → HeapBut lt b root n r
    hole x =
        let h = down.heap in
        record {
          edge = λ p c low ch m np nc.
              by_cases (ℕ_discrete p k)
              (λ pk. cc (larger.largest c (omega arith) m, x.left, x.other c (omega arith) nc))
              (λ npk.
              by_cases (ℕ_discrete c k)
              (λ ck. cc (h.over p r low (omega arith) larger.child larger.within, x.left, x.other p npk np))
              (λ nck. cc (h.edge p c low ch m npk nck, x.other p npk np, x.other c nck nc)));
          over = λ p c low up ch m.
              let pk : p ≡ k = omega arith in
              cc (h.edge r c (omega arith) ch m (omega arith) (omega arith), x.left, x.other c (omega arith) (omega arith));
        }

    pub down_step : n ≤ length l → b ≡ swap a k r → Down lt l b root n r
    down_step room e =
        let x = exchanged a k r (omega arith) (omega arith) (omega arith) b e in
        record {
          low = omega arith;
          within = larger.within;
          heap = hole x;
          moved = moved_twice l a b n down.moved (x.moved n down.within larger.within);
        }
