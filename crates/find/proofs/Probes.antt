-- The search probes no more often than the length of the body has binary digits. For any bytes.
use mathlib.Core.Path.{◌≡◌, refl, sym, ap}
use mathlib.Core.Bool.{Bool, true, false, ◌||◌}
use mathlib.Core.List.{List}
use Prim.Native.Nat.{ℕ, zero, suc, ◌+◌, ◌^◌, ◌≤◌, ◌<◌}
use native.Mathlib.Nat.{two-pow-succ, pow-zero}
use native.Mathlib.Omega.{arith}
use lib.Dec.{ltb}
use lib.ListN.{length}
use borrow.Author.Tests.{ltb-true, le-ltb}
use Rattle.class.specs.Class.{Classes}
use Rattle.search.specs.Search.{middle, halve, probe_count, order_at, failure_at, placed, search_of, probes_of}
use Rattle.find.specs.Present.{FewProbes}
use Rattle.search.proofs.Halving.{halve_done}
use Rattle.std.specs.declared.cmp.Ordering.{Ordering}
use Rattle.std.specs.declared.cmp.Ordering.TheVariants.{Equal, Greater, Less}

-- one probe halves the gap, whatever it says
few : (order : ℕ → Ordering) (turns j low high : ℕ) → high < low + 2 ^ j → probe_count order turns low high ≤ j
unfolding probe_count
few order zero j low high h = omega arith
few order (suc turns) zero low high h = rw (le-ltb low high (omega (arith, pow-zero 2)), probe_count) (omega arith)
few order (suc turns) (suc j) low high h = go (ltb low high) refl (order (middle low high)) refl (few order turns j)
  where
    go : (t : Bool) → ltb low high ≡ t → (o : Ordering) → order (middle low high) ≡ o
        → ((l k : ℕ) → k < l + 2 ^ j → probe_count order turns l k ≤ j) → probe_count order (suc turns) low high ≤ suc j
    go false e o s ih = rw (e, probe_count) (omega arith)
    go true e Less s ih = rw (e, probe_count) (rw (s, probe_count) (omega (arith, ih (middle low high + 1) high (omega (arith, two-pow-succ j)))))
    go true e Equal s ih = rw (e, probe_count) (rw (s, probe_count) (omega arith))
    go true e Greater s ih =
        rw (e, probe_count) (rw (s, probe_count) (omega (arith, ih low (middle low high) (omega (arith, ltb-true low high e, two-pow-succ j)))))

-- so many turns are enough: they give what any number of turns gives that is enough
enough : (order : ℕ → Ordering) (failure : ℕ → Bool) (turns j low high : ℕ) (failed : Bool) → high ≤ low + turns → high < low + 2 ^ j
    → halve order failure turns low high failed ≡ halve order failure j low high failed
unfolding halve
enough order failure zero j low high failed h g = sym (halve_done order failure j low high failed (omega arith))
enough order failure (suc turns) zero low high failed h g = halve_done order failure (suc turns) low high failed (omega (arith, pow-zero 2))
enough order failure (suc turns) (suc j) low high failed h g = go (ltb low high) refl (order (middle low high)) refl (enough order failure turns j)
  where
    go : (t : Bool) → ltb low high ≡ t → (o : Ordering) → order (middle low high) ≡ o
        → ((l k : ℕ) (f : Bool) → k ≤ l + turns → k < l + 2 ^ j → halve order failure turns l k f ≡ halve order failure j l k f)
        → halve order failure (suc turns) low high failed ≡ halve order failure (suc j) low high failed
    go false e o s ih = rw (e, halve)
    go true e Less s ih =
        let l = ltb-true low high e in
        rw (e, halve) (rw (s, halve) (ih (middle low high + 1) high (failed || failure (middle low high)) (omega arith) (omega (arith, two-pow-succ j))))
    go true e Equal s ih = rw (e, halve) (rw (s, halve))
    go true e Greater s ih =
        let l = ltb-true low high e in
        rw (e, halve) (rw (s, halve) (ih low (middle low high) (failed || failure (middle low high)) (omega arith) (omega (arith, two-pow-succ j))))

pub few_probes : (byte : Classes) (n : ℕ) (s wanted : List ℕ) → FewProbes byte n s wanted
unfolding probes_of search_of
few_probes byte n s wanted =
    record {
      few = λ j h. few (order_at byte n s wanted) (length s) j 0 (length s) (omega arith);
      enough =
          λ j h.
          ap (placed byte n s wanted)
          (enough (order_at byte n s wanted) (failure_at byte n s wanted) (length s) j 0 (length s) false (omega arith) (omega arith));
    }
