-- The order of two texts from a place on, by the letters that stand there.
use mathlib.Core.Path.{◌≡◌, refl, sym, ap, ◌∙◌}
use mathlib.Core.Bool.{Bool, true, false, ◌&&◌, false≢true}
use mathlib.Core.List.{List, [], ◌∷◌}
use Prim.Native.Nat.{ℕ, zero, suc, ◌+◌, ◌≤◌, ◌<◌}
use native.Mathlib.Nat.{add-zero, add-suc}
use native.Mathlib.Numerals.{add-one}
use native.Mathlib.Omega.{arith}
use lib.Dec.{ltb}
use lib.ListN.{length, get_or, drop, drop_of_length-le}
use lib.Seq.{drop-cons}
use borrow.Author.Count.{below_none, below_more}
use borrow.Author.Tests.{ltb-true, ltb-false}
use Rattle.class.specs.Class.{is_line_end}
use Rattle.compare.specs.Order.{order_of}
use Rattle.compare.proofs.Orders.{same_first}
use Rattle.places.specs.Name.{text_of}
use Rattle.places.specs.Letter.{letter, Alike}
use Rattle.std.specs.declared.cmp.Ordering.{Ordering}

-- ---- a text from a place on

module _ (s : List ℕ) (i : ℕ) where
  pub text_beyond : length s ≤ i → text_of (drop i s) ≡ []
  unfolding text_of
  text_beyond h = rw (drop_of_length-le s h)

  pub text_ended : i < length s → is_line_end (get_or s i 0) ≡ true → text_of (drop i s) ≡ []
  unfolding text_of
  text_ended h e = rw (drop-cons s i 0 h, e)

  pub text_goes : i < length s → is_line_end (get_or s i 0) ≡ false → text_of (drop i s) ≡ get_or s i 0 ∷ text_of (drop (i + 1) s)
  unfolding text_of
  text_goes h e = rw (drop-cons s i 0 h, e, add-one)

  data Text : Type 0 where
    ended : text_of (drop i s) ≡ [] → Text
    goes : i < length s → is_line_end (get_or s i 0) ≡ false → Text

  text : Text
  text = go (ltb i (length s)) refl (is_line_end (get_or s i 0)) refl
    where
      go : (t : Bool) → ltb i (length s) ≡ t → (e : Bool) → is_line_end (get_or s i 0) ≡ e → Text
      go false h e k = ended (text_beyond (ltb-false i (length s) h))
      go true h true k = ended (text_ended (ltb-true i (length s) h) k)
      go true h false k = goes (ltb-true i (length s) h) k

  pub some_letter : (n : ℕ) → n ≡ letter (text_of (drop i s)) → (n ≡ 0 → ⊥) → i < length s
  some_letter n e some = go text
    where
      go : Text → i < length s
      go (ended h) = absurd (some (e ∙ ap letter h))
      go (goes h k) = h

-- ---- two texts from a place on

module _ (x y : List ℕ) where
  abbrev pub order_from : ℕ → Ordering
  order_from i = order_of (text_of (drop i x)) (text_of (drop i y))

  go_on : (i : ℕ) → i < length x → i < length y → get_or x i 0 ≡ get_or y i 0 → is_line_end (get_or x i 0) ≡ false
      → order_from i ≡ order_from (i + 1)
  go_on i h k e l =
      rw (text_goes x i h l, text_goes y i k (ap is_line_end (sym e) ∙ l))
      (same_first (get_or x i 0) (text_of (drop (i + 1) x)) (get_or y i 0) (text_of (drop (i + 1) y)) e)

  pub same_letter : (i : ℕ) → letter (text_of (drop i x)) ≡ letter (text_of (drop i y)) → (letter (text_of (drop i x)) ≡ 0 → ⊥)
      → order_from i ≡ order_from (i + 1)
  same_letter i e some = go (text x i) (text y i)
    where
      go : Text x i → Text y i → order_from i ≡ order_from (i + 1)
      go (ended h) b = absurd (some (ap letter h))
      go (goes h k) (ended h') = absurd (some (e ∙ ap letter h'))
      go (goes h k) (goes h' k') =
          let p = ap letter (text_goes x i h k) in
          let q = ap letter (text_goes y i h' k') in
          go_on i h h' (omega (arith, p, q, e)) k

  skip_by : (i n : ℕ) → i + n ≤ length x → i + n ≤ length y
      → ((k : ℕ) → k < n → (get_or x (i + k) 0 ≡ get_or y (i + k) 0) × (is_line_end (get_or x (i + k) 0) ≡ false))
      → order_from i ≡ order_from (i + n)
  skip_by i zero g h all = rw add-zero
  skip_by i (suc n) g h all =
      skip_by i n (omega arith) (omega arith) (λ k l. all k (omega arith))
      ∙ go_on (i + n) (omega arith) (omega arith) (all n (omega arith)).0 (all n (omega arith)).1
      ∙ rw (add-suc i n, add-one (i + n))

  pub skip : (i n : ℕ) → Alike x y i n → order_from i ≡ order_from (i + n)
  skip i n a = skip_by i n a.in_x a.in_y a.bytes

  -- ---- one more byte that both texts have

  pub alike_none : (i : ℕ) → i ≤ length x → i ≤ length y → Alike x y i 0
  alike_none i h k = record { in_x = omega arith; in_y = omega arith; bytes = below_none _ }

  pub alike_more : (i n : ℕ) → i + n < length x → i + n < length y → get_or x (i + n) 0 ≡ get_or y (i + n) 0 → is_line_end (get_or x (i + n) 0) ≡ false
      → Alike x y i n
      → Alike x y i (n + 1)
  alike_more i n h k e l a =
      record { in_x = omega arith; in_y = omega arith; bytes = below_more _ _ a.bytes (e, l) }

pub both : (a b : Bool) → a && b ≡ true → (a ≡ true) × (b ≡ true)
both true b e = (refl, e)
both false b e = absurd (false≢true e)
