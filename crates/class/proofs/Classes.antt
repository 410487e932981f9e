-- The table's classes are the paper's: of every number, since beyond the table there is no class.
use mathlib.Core.Path.{◌≡◌, refl, sym, ap, ◌∙◌, fun_ext}
use mathlib.Core.Bool.{Bool, true, false, ◌||◌, and-false, or_assoc, or_comm}
use mathlib.Core.List.{List}
use Prim.Native.Nat.{ℕ, zero, suc, ◌+◌, ◌*◌, ◌/◌, ◌%◌, ◌≤◌, ◌<◌}
use native.Mathlib.Nat.{add-zero, zero-add, suc-add, add-suc}
use native.Mathlib.Omega.{arith}
use lib.Dec.{ltb, eqb}
use lib.ListN.{get_or}
use borrow.Author.Tests.{ltb-true, ltb-false, lt-leb, le-ltb, ne_eqb}
use Rattle.std.specs.Char.{is_ascii_hexdigit}
use Rattle.class.specs.Class.{within, is_hex, is_forbidden, is_line_end, Classes, paper, bit, class_of, values_from, class_table, classes_of}

-- ---- the three classes read back from the sum of their bits

module _ (a b c : Bool) where
  abbrev sum : ℕ
  sum = bit a + 2 * bit b + 4 * bit c

read_back : (a b c : Bool) → (eqb (sum a b c % 2) 1 ≡ a) × (eqb (sum a b c / 2 % 2) 1 ≡ b) × (eqb (sum a b c / 4 % 2) 1 ≡ c)
read_back true true true = (refl, refl, refl)
read_back true true false = (refl, refl, refl)
read_back true false true = (refl, refl, refl)
read_back true false false = (refl, refl, refl)
read_back false true true = (refl, refl, refl)
read_back false true false = (refl, refl, refl)
read_back false false true = (refl, refl, refl)
read_back false false false = (refl, refl, refl)

-- ---- the entry at each number

pub value_at : (f : ℕ → ℕ) (i n k : ℕ) → k < n → get_or (values_from f i n) k 0 ≡ f (i + k)
value_at f i zero k h = absurd (omega arith)
value_at f i (suc n) zero h = ap f (sym (add-zero i))
value_at f i (suc n) (suc k) h = value_at f (suc i) n k (omega arith) ∙ ap f (suc-add i k ∙ sym (add-suc i k))

no_value : (f : ℕ → ℕ) (i n k : ℕ) → n ≤ k → get_or (values_from f i n) k 0 ≡ 0
no_value f i zero k h = refl
no_value f i (suc n) zero h = absurd (omega arith)
no_value f i (suc n) (suc k) h = no_value f (suc i) n k (omega arith)

-- no class reaches beyond the bytes
classless : (b : ℕ) → 256 ≤ b → class_of b ≡ 0
unfolding class_of is_hex is_forbidden is_line_end
classless b h =
    simp (
      lt-leb b 57 (omega arith),
      lt-leb b 102 (omega arith),
      lt-leb b 70 (omega arith),
      le-ltb b 32 (omega arith),
      ne_eqb b 127 (λ e. omega arith),
      ne_eqb b 32 (λ e. omega arith),
      ne_eqb b 126 (λ e. omega arith),
      ne_eqb b 94 (λ e. omega arith),
      ne_eqb b 58 (λ e. omega arith),
      ne_eqb b 63 (λ e. omega arith),
      ne_eqb b 42 (λ e. omega arith),
      ne_eqb b 91 (λ e. omega arith),
      ne_eqb b 92 (λ e. omega arith),
      ne_eqb b 10 (λ e. omega arith),
      ne_eqb b 13 (λ e. omega arith),
      and-false,
    )

entry : (b : ℕ) → get_or class_table b 0 ≡ class_of b
unfolding class_table
entry b = go (ltb b 256) refl
  where
    go : (t : Bool) → ltb b 256 ≡ t → get_or (values_from class_of 0 256) b 0 ≡ class_of b
    go true e = value_at class_of 0 256 b (ltb-true b 256 e) ∙ ap class_of (zero-add b)
    go false e = no_value class_of 0 256 b (ltb-false b 256 e) ∙ sym (classless b (ltb-false b 256 e))

-- ---- the law that turns what is said over the table into what the paper says

pub table_classes : classes_of class_table ≡ paper
unfolding class_of
table_classes = λ i. record { hex = h i; forbidden = f i; line_end = l i }
  where
    h : (λ (b : ℕ). eqb (get_or class_table b 0 % 2) 1) ≡ is_hex
    h = fun_ext (λ b. ap (λ (x : ℕ). eqb (x % 2) 1) (entry b) ∙ (read_back (is_hex b) (is_forbidden b) (is_line_end b)).0)

    f : (λ (b : ℕ). eqb (get_or class_table b 0 / 2 % 2) 1) ≡ is_forbidden
    f = fun_ext (λ b. ap (λ (x : ℕ). eqb (x / 2 % 2) 1) (entry b) ∙ (read_back (is_hex b) (is_forbidden b) (is_line_end b)).1)

    l : (λ (b : ℕ). eqb (get_or class_table b 0 / 4 % 2) 1) ≡ is_line_end
    l = fun_ext (λ b. ap (λ (x : ℕ). eqb (x / 4 % 2) 1) (entry b) ∙ (read_back (is_hex b) (is_forbidden b) (is_line_end b)).2)

-- what is said of a table's classes is said of the paper's, once the table is the one
pub by_paper {ℓ} : {A : Type ℓ} (f : Classes → A) {t : List ℕ} → t ≡ class_table → f (classes_of t) ≡ f paper
by_paper f e = ap (λ t. f (classes_of t)) e ∙ ap f table_classes

-- ---- the library's hex digits

pub hex_by_library : (b : ℕ) → is_ascii_hexdigit b ≡ is_hex b
unfolding is_hex
hex_by_library b = simp or_assoc (ap (λ t. within 48 57 b || t) (or_comm (within 65 70 b) (within 97 102 b)))
