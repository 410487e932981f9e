-- The runs of the edits among some items, one step at a time: by the order of the first record's name and the first edit's.
use mathlib.Core.Path.{◌≡◌, refl, ap}
use mathlib.Core.List.{List, [], ◌∷◌}
use Prim.Native.Nat.{ℕ, suc, ◌+◌}
use native.Mathlib.Omega.{arith}
use lib.ListN.{length, drop, length-append, length-drop}
use Rattle.compare.specs.Order.{order_of}
use Rattle.iter.specs.Items.{Item, name_of}
use Rattle.parts.specs.Parts.{edit_name}
use Rattle.runs.specs.Runs.{run, settles, at_end}
use Rattle.runs.proofs.RunTurns.{runs_of, settles_le}
use Rattle.std.specs.declared.cmp.Ordering.TheVariants.{Equal, Greater, Less}

module _ (n : ℕ) (list : List ℕ) where
  pub runs_none : (place : ℕ) (l : List Item) → runs_of n list place l [] ≡ []
  runs_none place [] = refl
  runs_none place (i ∷ l) = runs_none (place + length i.bytes) l

  module _ (place : ℕ) (i : Item) (l : List Item) (p : ℕ) (ps : List ℕ) where
    -- the edit belongs further behind
    pub runs_less : order_of (name_of n i) (edit_name list p) ≡ Less
        → runs_of n list place (i ∷ l) (p ∷ ps) ≡ runs_of n list (place + length i.bytes) l (p ∷ ps)
    runs_less e = rw e

    -- it replaces the record
    pub runs_equal : order_of (name_of n i) (edit_name list p) ≡ Equal
        → runs_of n list place (i ∷ l) (p ∷ ps)
        ≡ run place (place + length i.bytes) ∷ runs_of n list (place + length i.bytes) l ps
    runs_equal e = rw e

    -- it belongs in front of the record
    pub runs_greater : order_of (name_of n i) (edit_name list p) ≡ Greater
        → runs_of n list place (i ∷ l) (p ∷ ps) ≡ run place place ∷ runs_of n list place (i ∷ l) ps
    runs_greater e = rw e

  -- ---- each edit has a run

  length_end : (place : ℕ) (ps : List ℕ) → length (at_end place ps) ≡ length ps
  length_end place [] = refl
  length_end place (p ∷ ps) = ap suc (length_end place ps)

  pub length_runs : (place : ℕ) (l : List Item) (ps : List ℕ) → length (runs_of n list place l ps) ≡ length ps
  length_runs place [] ps = length_end place ps
  length_runs place (i ∷ l) ps =
      let next = place + length i.bytes in
      let here = settles list (name_of n i) place next ps in
      let behind = drop (length here) ps in
      omega (
        arith,
        length-append here (runs_of n list next l behind),
        length_runs next l behind,
        length-drop (length here) ps,
        settles_le list (name_of n i) place next ps,
      )
