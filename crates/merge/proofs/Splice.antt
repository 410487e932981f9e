-- What the new file is made of: an edit's lines by its kind, and the bytes that a turn of the writing puts.
use mathlib.Core.Path.{◌≡◌, refl, sym, ap, ◌∙◌}
use mathlib.Core.List.{List, ◌∷◌, ◌++◌, append-nil, []}
use Prim.Native.Nat.{ℕ, zero, suc, ◌+◌, ◌*◌, ◌-◌, ◌≤◌, ◌<◌}
use native.Mathlib.Nat.{add-zero}
use native.Mathlib.Numerals.{add-one}
use native.Mathlib.Omega.{arith}
use lib.ListN.{length, get_or, take, drop, drop_of_length-le}
use lib.Seq.{drop-cons, drop-drop, get_or-drop}
use Rattle.parts.specs.Parts.{edit_kind, edit_name, edit_id, edit_peeled}
use Rattle.hex_digits.specs.Hex.{hex_text}
use Rattle.put.specs.Put.{over, place_behind}
use Rattle.put.specs.Cr.{without_cr}
use Rattle.put.proofs.Laws.{Puts}
use Rattle.lines.specs.Lines.{record_line, peeled_line, lines_of_all}
use Rattle.lines.proofs.Lines.{three_put}
use Rattle.merge.specs.Override.{new_of, edit_at}
use Rattle.merge.specs.Splice.{spliced}

-- the same text by another name
pub puts_as : (d : List ℕ) (at : ℕ) {w w' d' : List ℕ} {r : ℕ} → w ≡ w' → Puts d at w d' r → Puts d at w' d' r
puts_as d at e p = (p.0 ∙ ap (over d at) e, p.1 ∙ ap (λ (s : List ℕ). place_behind at (length s)) e)

-- ---- the lines of the edit at a place

module _ (n : ℕ) (list : List ℕ) (place : ℕ) where
  abbrev pub new_lines : List ℕ
  new_lines = lines_of_all (edit_at n list place).new

  abbrev of_kind : ℕ → List ℕ
  of_kind k = lines_of_all (new_of k (edit_name list place) (edit_id n list place) (edit_peeled n list place))

  abbrev pub first_line : List ℕ
  first_line = record_line (hex_text (edit_id n list place)) (edit_name list place)

  abbrev pub second_line : List ℕ
  second_line = peeled_line (hex_text (edit_peeled n list place))

  of_one : of_kind 1 ≡ first_line
  of_one = append-nil (first_line ++ []) ∙ append-nil first_line

  of_two : (k : ℕ) → of_kind (suc (suc k)) ≡ first_line ++ second_line
  of_two k = append-nil (first_line ++ second_line)

  pub lines_none : edit_kind list place ≡ 0 → new_lines ≡ []
  lines_none e = ap of_kind e

  pub lines_one : edit_kind list place ≡ 1 → new_lines ≡ first_line
  lines_one e = ap of_kind e ∙ of_one

  pub lines_two : (edit_kind list place ≡ 0 → ⊥) → (edit_kind list place ≡ 1 → ⊥) → new_lines ≡ first_line ++ second_line
  lines_two none one = go (edit_kind list place) refl
    where
      go : (k : ℕ) → edit_kind list place ≡ k → of_kind k ≡ first_line ++ second_line
      go zero e = absurd (none e)
      go (suc zero) e = absurd (one e)
      go (suc (suc k)) e = of_two k

-- ---- a turn of the writing

-- old bytes from one place up to another
module _ (file : List ℕ) where
  abbrev pub old_bytes : ℕ → ℕ → List ℕ
  old_bytes from to = without_cr (take (to - from) (drop from file))

module _ (n : ℕ) (file list index marks : List ℕ) where
  -- what is still to be put when j edits are, and the old bytes up to a place
  abbrev pub spliced_from : ℕ → ℕ → List ℕ
  spliced_from from j = spliced n file list from (drop j index) (drop (2 * j) marks)

  pub spliced_end : (from j : ℕ) → length index ≤ j → spliced_from from j ≡ without_cr (drop from file)
  spliced_end from j h = ap (λ ps. spliced n file list from ps (drop (2 * j) marks)) (drop_of_length-le index h)

  module _ (from j : ℕ) (h : j < length index) where
    abbrev old : List ℕ
    old = old_bytes file from (get_or marks (2 * j) 0)

    abbrev new : List ℕ
    new = new_lines n list (get_or index j 0)

    abbrev rest : List ℕ
    rest = spliced_from (get_or marks (2 * j + 1) 0) (j + 1)

    pub spliced_turn : spliced_from from j ≡ old ++ (new ++ rest)
    spliced_turn =
        let next : 2 * j + 2 ≡ 2 * (j + 1) = omega arith in
        ap (λ ps. spliced n file list from ps (drop (2 * j) marks)) (drop-cons index j 0 h ∙ ap (λ k. get_or index j 0 ∷ drop k index) (sym (add-one j)))
        ∙ rw (get_or-drop (2 * j) marks 0 0, get_or-drop (2 * j) marks 1 0, drop-drop 2 (2 * j) marks, add-zero, next)

    -- the old bytes and the lines are put: what is left goes behind them
    pub put_turn : (d d₁ d₂ : List ℕ) (at k m : ℕ) → length d ≤ 18446744073709551615 → Puts d at old d₁ k → Puts d₁ k new d₂ m
        → Puts d at (spliced_from from j) (over d₂ m rest) (place_behind m (length rest))
    put_turn d d₁ d₂ at k m room p q =
        rw spliced_turn (three_put d d₁ d₂ at k m room (over d₂ m rest) (place_behind m (length rest)) old new rest p q (refl, refl))
