-- The edits of a list, each by its name and by what it puts there.
use Rattle.std.specs.Prelude.{List, [], ◌∷◌, ℕ, zero, suc}
use Rattle.std.proofs.Math.Option.{none, some}
use Rattle.decode.specs.Entry.{Entry}
use Rattle.parts.specs.Parts.{edit_kind, edit_name, edit_id, edit_peeled}
use Rattle.hex_digits.specs.Hex.{hex_text}

-- what an edit does: it has a name, and in place of the old record of that name it puts new ones, none for a delete and one for an update
pub record Override : Type 0 where
  pub name : List ℕ
  pub new : List Entry

-- by its kind, its name, its id and its peeled id in raw bytes: "0 delete, 1 update, 2 update with peeled id"; "new ids in the sixteen
-- lower-case digits"
abbrev pub new_of : ℕ → List ℕ → List ℕ → List ℕ → List Entry
new_of zero name id peeled = []
new_of (suc zero) name id peeled = record { name = name; id = hex_text id; peeled = none } ∷ []
new_of (suc (suc kind)) name id peeled = record { name = name; id = hex_text id; peeled = some (hex_text peeled) } ∷ []

-- what the edit at a place of the list does
abbrev pub edit_at : ℕ → List ℕ → ℕ → Override
edit_at n list place =
    let name = edit_name list place in
    record { name = name; new = new_of (edit_kind list place) name (edit_id n list place) (edit_peeled n list place) }

abbrev pub edits_at : ℕ → List ℕ → List ℕ → List Override
edits_at n list [] = []
edits_at n list (p ∷ ps) = edit_at n list p ∷ edits_at n list ps
