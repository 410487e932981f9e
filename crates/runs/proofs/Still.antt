-- Whether there is an update or a run that is not empty: the test of each edit and its run, one after another.
use mathlib.Core.Path.{◌≡◌, refl, sym, ap, ◌∙◌}
use mathlib.Core.Bool.{Bool, true, false, ◌&&◌}
use mathlib.Core.List.{List, [], ◌∷◌}
use Prim.Native.Nat.{ℕ, ◌+◌, ◌*◌}
use native.Mathlib.Nat.{add-zero}
use native.Mathlib.Omega.{arith}
use lib.Dec.{eqb}
use lib.ListN.{get_or, drop}
use lib.Seq.{drop-drop, get_or-drop}
use Rattle.std.specs.List.{list_all, enumerate_from}
use Rattle.parts.specs.Parts.{edit_kind}
use Rattle.runs.specs.Runs.{is_still}

module _ (list marks : List ℕ) where
  -- the edit of the index's entry j, which stands at a place of the list, and its run leave every record
  abbrev pub leaves : (entry : ℕ × ℕ) → Bool
  leaves (j, place) = eqb (edit_kind list place) 0 && eqb (get_or marks (2 * j) 0) (get_or marks (2 * j + 1) 0)

  both : (a b c d : Bool) → c ≡ d → (a && b) && c ≡ a && (b && d)
  both true b c d e = ap (λ t. b && t) e
  both false b c d e = refl

  still_from : (j : ℕ) (ps : List ℕ) → list_all leaves (enumerate_from j ps) ≡ is_still list ps (drop (2 * j) marks)
  still_from j [] = refl
  still_from j (p ∷ ps) =
      let start : get_or (drop (2 * j) marks) 0 0 ≡ get_or marks (2 * j) 0 = get_or-drop (2 * j) marks 0 0 ∙ ap (λ k. get_or marks k 0) (add-zero (2 * j)) in
      let end : get_or (drop (2 * j) marks) 1 0 ≡ get_or marks (2 * j + 1) 0 = get_or-drop (2 * j) marks 1 0 in
      let next : drop (2 * (j + 1)) marks ≡ drop 2 (drop (2 * j) marks) =
      ap (λ k. drop k marks) (let e : 2 * (j + 1) ≡ 2 * j + 2 = omega arith in e) ∙ sym (drop-drop 2 (2 * j) marks)
      in
      both (eqb (edit_kind list p) 0) (eqb (get_or marks (2 * j) 0) (get_or marks (2 * j + 1) 0)) _ _
      (still_from (j + 1) ps ∙ ap (is_still list ps) next)
      ∙ (λ i. eqb (edit_kind list p) 0 && (eqb (sym start i) (sym end i) && is_still list ps (drop 2 (drop (2 * j) marks))))

  pub still_is : (ps : List ℕ) → list_all leaves (enumerate_from 0 ps) ≡ is_still list ps marks
  still_is = still_from 0
