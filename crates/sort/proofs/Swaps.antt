-- What an exchange of two entries does, and what a run of exchanges among the first n entries keeps.
use mathlib.Core.Path.{◌≡◌, refl, sym, ap, ◌∙◌}
use mathlib.Core.List.{List, [], ◌∷◌}
use mathlib.Core.Logic.{by_cases}
use Prim.Native.Nat.{ℕ, zero, suc, ◌+◌, ◌-◌, ◌≤◌, ◌<◌}
use native.Mathlib.Decide.{ℕ_discrete, dec_lt}
use native.Mathlib.Omega.{arith}
use lib.Dec.{eqb}
use lib.ListN.{length, get_or, set, drop, length-set}
use lib.Seq.{get_or-set_same, get_or-set_other, drop-set-lt, get_or-drop, drop-drop}
use Rattle.class.specs.Class.{bit}
use Rattle.places.specs.Laws.{count, Permutation}
use Rattle.std.specs.List.{swap}
use Rattle.std.proofs.lemmas.List.{get_or_default}
use Rattle.sort.specs.Heap.{Moved}

-- m is l with the entries i and j exchanged
pub record Exchanged (i j : ℕ) (l m : List ℕ) : Type 0 where
  pub left : get_or m i 0 ≡ get_or l j 0
  pub right : get_or m j 0 ≡ get_or l i 0
  pub other : (k : ℕ) → (k ≡ i → ⊥) → (k ≡ j → ⊥) → get_or m k 0 ≡ get_or l k 0
  pub moved : (n : ℕ) → i < n → j < n → Moved l m n

-- ---- one exchange

-- the entries i and j have changed places
abbrev swapped : ℕ → ℕ → List ℕ → List ℕ
swapped i j l = set (set l i (get_or l j 0)) j (get_or l i 0)

swap_is : (l : List ℕ) (i j : ℕ) → i < length l → j < length l → swap l i j ≡ swapped i j l
swap_is [] i j hi hj = absurd (omega arith)
swap_is (d ∷ l) i j hi hj = rw (get_or_default (d ∷ l) i d 0 hi, get_or_default (d ∷ l) j d 0 hj)

-- a store changes the counts of the old and the new entry alone
count_set : (x : ℕ) (l : List ℕ) (i v : ℕ) → i < length l → bit (eqb x (get_or l i 0)) + count x (set l i v) ≡ bit (eqb x v) + count x l
count_set x [] i v h = absurd (omega arith)
count_set x (y ∷ l) zero v h = omega arith
count_set x (y ∷ l) (suc i) v h = let rest = count_set x l i v (omega arith) in omega arith

module _ (l : List ℕ) (i j : ℕ) (hi : i < length l) (hj : j < length l) (ne : i ≡ j → ⊥) where
  left : get_or (swapped i j l) i 0 ≡ get_or l j 0
  left = get_or-set_other (set l i (get_or l j 0)) j i (get_or l i 0) 0 ne ∙ get_or-set_same l i (get_or l j 0) 0 hi

  right : get_or (swapped i j l) j 0 ≡ get_or l i 0
  right = get_or-set_same (set l i (get_or l j 0)) j (get_or l i 0) 0 (rw length-set hj)

  other : (k : ℕ) → (k ≡ i → ⊥) → (k ≡ j → ⊥) → get_or (swapped i j l) k 0 ≡ get_or l k 0
  other k ni nj = get_or-set_other (set l i (get_or l j 0)) j k (get_or l i 0) 0 nj ∙ get_or-set_other l i k (get_or l j 0) 0 ni

  permutation : Permutation (swapped i j l) l
  permutation x =
      let a = count_set x l i (get_or l j 0) hi in
      let b = count_set x (set l i (get_or l j 0)) j (get_or l i 0) (rw length-set hj) in
      let e = ap (λ (v : ℕ). bit (eqb x v)) (get_or-set_other l i j (get_or l j 0) 0 (λ q. ne (sym q))) in
      omega arith

  moved : (n : ℕ) → i < n → j < n → Moved l (swapped i j l) n
  moved n ni nj =
      record {
        size = simp length-set;
        permutation = permutation;
        behind = drop-set-lt n (set l i (get_or l j 0)) j (get_or l i 0) nj ∙ drop-set-lt n l i (get_or l j 0) ni;
        from = λ k nk. by_cases (ℕ_discrete k i)
            (λ e. (j, nj, rw e left))
            (λ ki. by_cases (ℕ_discrete k j)
            (λ e. (i, ni, rw e right))
            (λ kj. (k, nk, other k ki kj)));
      }

  -- what the slice's `swap` says
  pub exchanged : (m : List ℕ) → m ≡ swap l i j → Exchanged i j l m
  exchanged m e = rw (e, swap_is l i j hi hj) (record { left = left; right = right; other = other; moved = moved })

-- ---- a run of exchanges

pub moved_none : (l : List ℕ) (n : ℕ) → Moved l l n
moved_none l n = record { size = refl; permutation = λ x. refl; behind = refl; from = λ i h. (i, h, refl) }

pub moved_twice : (a b c : List ℕ) (n : ℕ) → Moved a b n → Moved b c n → Moved a c n
moved_twice a b c n p q =
    record {
      size = q.size ∙ p.size;
      permutation = λ x. q.permutation x ∙ p.permutation x;
      behind = q.behind ∙ p.behind;
      from = λ i h.
          let j = q.from i h in
          let k = p.from j.0 j.1 in
          (k.0, k.1, j.2 ∙ k.2);
    }

-- the entries from n on have stayed
pub stayed : (a b : List ℕ) (n i : ℕ) → Moved a b n → n ≤ i → get_or b i 0 ≡ get_or a i 0
stayed a b n i m h =
    let e : n + (i - n) ≡ i = omega arith in
    let there : (l : List ℕ) → get_or (drop n l) (i - n) 0 ≡ get_or l i 0 = λ l. rw (get_or-drop, e) in
    sym (there b) ∙ ap (λ (l : List ℕ). get_or l (i - n) 0) m.behind ∙ there a

pub moved_more : (a b : List ℕ) (n m : ℕ) → n ≤ m → Moved a b n → Moved a b m
moved_more a b n m h p =
    let e : n + (m - n) ≡ m = omega arith in
    let rest : (l : List ℕ) → drop (m - n) (drop n l) ≡ drop m l = λ l. rw (drop-drop, e) in
    record {
      size = p.size;
      permutation = p.permutation;
      behind = sym (rest b) ∙ ap (drop (m - n)) p.behind ∙ rest a;
      from = λ i hi. by_cases (dec_lt i n)
          (λ l. let j = p.from i l in (j.0, omega arith, j.2))
          (λ nl. (i, hi, stayed a b n i p (omega arith)));
    }
