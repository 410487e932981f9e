-- Marking runs one after another, and which runs a record settles, one edit after another.
use mathlib.Core.Path.{◌≡◌, refl, sym, ap, ◌∙◌}
use mathlib.Core.List.{List, [], ◌∷◌}
use Prim.Native.Nat.{ℕ, ◌+◌, ◌*◌, ◌≤◌, ◌<◌}
use native.Mathlib.Numerals.{add-one}
use native.Mathlib.Omega.{arith}
use lib.ListN.{get_or, length, drop, drop_of_length-le}
use lib.Seq.{drop-cons}
use Rattle.compare.specs.Order.{order_of}
use Rattle.parts.specs.Parts.{edit_name}
use Rattle.put.specs.Put.{over}
use Rattle.put.proofs.Laws.{over_nil, over_twice}
use Rattle.runs.specs.Runs.{Run, run, settles, at_end, marks_of}
use Rattle.std.specs.declared.cmp.Ordering.TheVariants.{Equal, Greater, Less}

-- ---- marking runs one after another: those that are left at number j, marked from there on, make what those from number `from` on make

pub record Going (left : ℕ → List Run) (from : ℕ) (marks₀ : List ℕ) (j : ℕ) (marks : List ℕ) : Type 0 where
  pub number : j + length (left j) ≡ from + length (left from)
  pub marked : over marks (2 * j) (marks_of (left j)) ≡ over marks₀ (2 * from) (marks_of (left from))

pub begin : (left : ℕ → List Run) (from : ℕ) (marks₀ : List ℕ) → Going left from marks₀ from marks₀
begin left from marks₀ = record { number = refl; marked = refl }

module _ (left : ℕ → List Run) (from : ℕ) (marks₀ : List ℕ) (j : ℕ) (marks : List ℕ) (g : Going left from marks₀ j marks) where
  -- none is left
  pub ends : left j ≡ [] → (j ≡ from + length (left from)) × (marks ≡ over marks₀ (2 * from) (marks_of (left from)))
  ends e = (omega (arith, g.number, ap length e), sym (over_nil marks (2 * j)) ∙ ap (λ l. over marks (2 * j) (marks_of l)) (sym e) ∙ g.marked)

  -- one is marked
  module _ (a b : ℕ) (after : List ℕ) (m : after ≡ over marks (2 * j) (a ∷ b ∷ [])) where
    -- and it is the last
    pub ends_with : left j ≡ run a b ∷ [] → (j + 1 ≡ from + length (left from)) × (after ≡ over marks₀ (2 * from) (marks_of (left from)))
    ends_with e = (omega (arith, g.number, ap length e), m ∙ ap (λ l. over marks (2 * j) (marks_of l)) (sym e) ∙ g.marked)

    -- and others follow
    pub goes_on : left j ≡ run a b ∷ left (j + 1) → Going left from marks₀ (j + 1) after
    goes_on e =
        record {
          number = omega (arith, g.number, ap length e);
          marked =
              ap (λ d. over d (2 * (j + 1)) (marks_of (left (j + 1)))) m
              ∙ over_twice marks (2 * j) (2 * (j + 1)) (a ∷ b ∷ []) (marks_of (left (j + 1))) (omega arith)
              ∙ ap (λ l. over marks (2 * j) (marks_of l)) (sym e)
              ∙ g.marked;
        }

-- ---- the runs that are left

module _ (list index name : List ℕ) (place next j : ℕ) where
  pub settles_end : length index ≤ j → settles list name place next (drop j index) ≡ []
  settles_end h = rw (drop_of_length-le index h)

  module _ (h : j < length index) where
    pub settles_less : order_of name (edit_name list (get_or index j 0)) ≡ Less → settles list name place next (drop j index) ≡ []
    settles_less e = rw (drop-cons index j 0 h, e)

    pub settles_equal : order_of name (edit_name list (get_or index j 0)) ≡ Equal → settles list name place next (drop j index) ≡ run place next ∷ []
    settles_equal e = rw (drop-cons index j 0 h, e)

    pub settles_greater : order_of name (edit_name list (get_or index j 0)) ≡ Greater
        → settles list name place next (drop j index) ≡ run place place ∷ settles list name place next (drop (j + 1) index)
    settles_greater e = rw (drop-cons index j 0 h, e, add-one)

pub at_end_none : (index : List ℕ) (place j : ℕ) → length index ≤ j → at_end place (drop j index) ≡ []
at_end_none index place j h = rw (drop_of_length-le index h)

pub at_end_one : (index : List ℕ) (place j : ℕ) → j < length index → at_end place (drop j index) ≡ run place place ∷ at_end place (drop (j + 1) index)
at_end_one index place j h = rw (drop-cons index j 0 h, add-one)
