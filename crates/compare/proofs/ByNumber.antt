-- The order of two strings by the numbers of eight of their bytes; and where they are alike up to a place, by what stands there.
use mathlib.Core.Path.{◌≡◌, refl, sym, ap, ◌∙◌}
use mathlib.Core.Bool.{Bool, true, false}
use mathlib.Core.List.{List, [], ◌∷◌, ◌++◌}
use Prim.Native.Nat.{ℕ, suc, ◌+◌, ◌≤◌, ◌<◌}
use native.Mathlib.Nat.{zero-add}
use native.Mathlib.Omega.{arith}
use borrow.Author.Tests.{le-leb, lt-ltb, le-ltb, ltb-true, ltb-false, eq-eqb, ne_eqb}
use lib.Dec.{ltb}
use lib.ListN.{length, get_or, drop, take-append-drop}
use lib.Seq.{get_or-drop, get_or-take}
use Rattle.word.specs.Number.{Bytes, number_of, eight, number_at}
use Rattle.word.proofs.Bytes.{bytes_eight, length_eight}
use Rattle.word.proofs.Numbers.{number_first_lt, number_same_first}
use Rattle.std.specs.Ordering.{nat_cmp}
use Rattle.std.specs.declared.cmp.Ordering.TheVariants.{Less, Equal, Greater}
use Rattle.compare.specs.Order.{order_of}
use Rattle.compare.proofs.Orders.{Firsts, below, above, level, firsts, skip, both_end, first_ends, second_ends, smaller as byte_smaller, greater as byte_greater}

-- two fronts x and y of one length: their numbers tell the order of what begins with them, or that they are the same
data Fronts (x y r t : List ℕ) : Type 0 where
  smaller : number_of x < number_of y → order_of (x ++ r) (y ++ t) ≡ Less → Fronts x y r t
  greater : number_of y < number_of x → order_of (x ++ r) (y ++ t) ≡ Greater → Fronts x y r t
  same : number_of x ≡ number_of y → x ≡ y → Fronts x y r t

fronts : (x y r t : List ℕ) → length x ≡ length y → Bytes x → Bytes y → Fronts x y r t
fronts [] [] r t h p q = same refl refl
fronts [] (b ∷ y) r t h p q = absurd (omega arith)
fronts (a ∷ x) [] r t h p q = absurd (omega arith)
fronts (a ∷ x) (b ∷ y) r t h p q =
    go (firsts a (x ++ r) b (y ++ t)) (fronts x y r t (omega arith) (λ k. p (suc k)) (λ k. q (suc k)))
  where
    go : Firsts a (x ++ r) b (y ++ t) → Fronts x y r t → Fronts (a ∷ x) (b ∷ y) r t
    go (below l e) rest = smaller (number_first_lt a b x y (omega arith) (λ k. p (suc k)) l) e
    go (above l e) rest = greater (number_first_lt b a y x (omega arith) (λ k. q (suc k)) l) e
    go (level l e) (smaller n f) = smaller (omega (arith, number_same_first b x y (omega arith), ap (λ (d : ℕ). number_of (d ∷ x)) l)) (e ∙ f)
    go (level l e) (greater n f) = greater (omega (arith, number_same_first b x y (omega arith), ap (λ (d : ℕ). number_of (d ∷ x)) l)) (e ∙ f)
    go (level l e) (same n f) = same (omega (arith, number_same_first b x y (omega arith), ap (λ (d : ℕ). number_of (d ∷ x)) l)) (cc)

-- ---- alike up to a place

abbrev pub AlikeTo : List ℕ → List ℕ → ℕ → Type 0
AlikeTo a b i = (k : ℕ) → k < i → get_or a k 0 ≡ get_or b k 0

-- what follows the place has the order of the whole
pub order_behind : (a b : List ℕ) (i : ℕ) → i ≤ length a → i ≤ length b → AlikeTo a b i → order_of (drop i a) (drop i b) ≡ order_of a b
order_behind a b i h g all =
    ap (λ (k : ℕ). order_of (drop k a) (drop k b)) (sym (zero-add i)) ∙ sym (skip a b 0 i (omega arith) (omega arith) (λ k l. rw (zero-add k) (all k l)))

-- ---- the library's order of two numbers

module _ (x y : ℕ) where
  cmp_less : x < y → nat_cmp x y ≡ Less
  cmp_less l = rw (lt-ltb x y l)

  cmp_equal : x ≡ y → nat_cmp x y ≡ Equal
  cmp_equal e = rw (le-ltb x y (omega arith), eq-eqb x y e)

  cmp_greater : y < x → nat_cmp x y ≡ Greater
  cmp_greater l = rw (le-ltb x y (omega arith), ne_eqb x y (λ e. omega arith))

module _ (a b : List ℕ) (i : ℕ) where
  -- the bytes at the place, where they differ
  pub order_by_bytes : i < length a → i < length b → AlikeTo a b i → (get_or a i 0 ≡ get_or b i 0 → ⊥) → nat_cmp (get_or a i 0) (get_or b i 0) ≡ order_of a b
  order_by_bytes h g all differ = go (ltb x y) refl ∙ order_behind a b i (omega arith) (omega arith) all
    where
      x : ℕ
      x = get_or a i 0

      y : ℕ
      y = get_or b i 0

      go : (t : Bool) → ltb x y ≡ t → nat_cmp x y ≡ order_of (drop i a) (drop i b)
      go true e =
          let l = ltb-true x y e in
          cmp_less x y l ∙ sym (byte_smaller a b i h g l)
      go false e =
          let near = ltb-false x y e in
          let l : y < x = grind (arith, differ, near) in
          cmp_greater x y l ∙ sym (byte_greater a b i h g l)

  -- the lengths, where one of the two ends at the place
  pub order_by_lengths : i ≤ length a → i ≤ length b → (i < length a → i < length b → ⊥) → AlikeTo a b i → nat_cmp (length a) (length b) ≡ order_of a b
  order_by_lengths h g end all = go (ltb (length a) (length b)) (ltb (length b) (length a)) refl refl ∙ order_behind a b i h g all
    where
      go : (t v : Bool) → ltb (length a) (length b) ≡ t → ltb (length b) (length a) ≡ v → nat_cmp (length a) (length b) ≡ order_of (drop i a) (drop i b)
      go true v e f =
          let l = ltb-true (length a) (length b) e in
          cmp_less (length a) (length b) l ∙ sym (first_ends a b i (grind (arith, end, l)) (omega (arith, l)))
      go false true e f =
          let l = ltb-true (length b) (length a) f in
          cmp_greater (length a) (length b) l ∙ sym (second_ends a b i (omega (arith, l)) (grind (arith, end, l)))
      go false false e f =
          let l = ltb-false (length a) (length b) e in
          let m = ltb-false (length b) (length a) f in
          cmp_equal (length a) (length b) (omega (arith, l, m)) ∙ sym (both_end a b i (grind (arith, end, l, m)) (grind (arith, end, l, m)))

-- ---- the eight bytes behind a place up to which both are alike

number_is : (s : List ℕ) (i : ℕ) → i + 8 ≤ length s → number_at s i ≡ number_of (eight s i)
unfolding number_at
number_is s i h = rw (le-leb (i + 8) (length s) h)

module _ (a b : List ℕ) (i : ℕ) (h : i + 8 ≤ length a) (g : i + 8 ≤ length b) (p : Bytes a) (q : Bytes b) where
  here : Fronts (eight a i) (eight b i) (drop 8 (drop i a)) (drop 8 (drop i b))
  here =
      fronts (eight a i) (eight b i) (drop 8 (drop i a)) (drop 8 (drop i b)) (length_eight a i h ∙ sym (length_eight b i g)) (bytes_eight a i p) (bytes_eight b i q)

  order_here : AlikeTo a b i → order_of a b ≡ order_of (eight a i ++ drop 8 (drop i a)) (eight b i ++ drop 8 (drop i b))
  order_here all = sym (order_behind a b i (omega arith) (omega arith) all) ∙ rw (take-append-drop 8 (drop i a), take-append-drop 8 (drop i b))

  pub eight_less : AlikeTo a b i → number_at a i < number_at b i → order_of a b ≡ Less
  eight_less all l = go here
    where
      go : Fronts (eight a i) (eight b i) (drop 8 (drop i a)) (drop 8 (drop i b)) → order_of a b ≡ Less
      go (smaller n e) = order_here all ∙ e
      go (greater n e) = absurd (omega (arith, number_is a i h, number_is b i g))
      go (same n e) = absurd (omega (arith, number_is a i h, number_is b i g))

  pub eight_greater : AlikeTo a b i → number_at b i < number_at a i → order_of a b ≡ Greater
  eight_greater all l = go here
    where
      go : Fronts (eight a i) (eight b i) (drop 8 (drop i a)) (drop 8 (drop i b)) → order_of a b ≡ Greater
      go (smaller n e) = absurd (omega (arith, number_is a i h, number_is b i g))
      go (greater n e) = order_here all ∙ e
      go (same n e) = absurd (omega (arith, number_is a i h, number_is b i g))

  pub eight_same : number_at a i ≡ number_at b i → (k : ℕ) → k < 8 → get_or a (i + k) 0 ≡ get_or b (i + k) 0
  eight_same l k m = go here
    where
      go : Fronts (eight a i) (eight b i) (drop 8 (drop i a)) (drop 8 (drop i b)) → get_or a (i + k) 0 ≡ get_or b (i + k) 0
      go (smaller n e) = absurd (omega (arith, number_is a i h, number_is b i g))
      go (greater n e) = absurd (omega (arith, number_is a i h, number_is b i g))
      go (same n e) =
          sym (get_or-take 8 (drop i a) k 0 m ∙ get_or-drop i a k 0) ∙ ap (λ (s : List ℕ). get_or s k 0) e ∙ get_or-take 8 (drop i b) k 0 m ∙ get_or-drop i b k 0

  -- the numbers, where they differ
  pub order_by_numbers : AlikeTo a b i → (number_at a i ≡ number_at b i → ⊥) → nat_cmp (number_at a i) (number_at b i) ≡ order_of a b
  order_by_numbers all differ = go (ltb (number_at a i) (number_at b i)) refl
    where
      go : (t : Bool) → ltb (number_at a i) (number_at b i) ≡ t → nat_cmp (number_at a i) (number_at b i) ≡ order_of a b
      go true e =
          let l = ltb-true (number_at a i) (number_at b i) e in
          cmp_less (number_at a i) (number_at b i) l ∙ sym (eight_less all l)
      go false e =
          let near = ltb-false (number_at a i) (number_at b i) e in
          let l : number_at b i < number_at a i = grind (arith, differ, near) in
          cmp_greater (number_at a i) (number_at b i) l ∙ sym (eight_greater all l)
