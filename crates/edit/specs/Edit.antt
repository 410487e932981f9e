-- One edit at the front of the bytes s, with ids of n digits.
use Rattle.std.specs.Prelude.{◌&&◌, ◌||◌, List, ℕ, ◌+◌, ◌*◌, ◌/◌, leb, ltb, eqb, length, Result, Ok, Err}
use Rattle.parse.specs.Choice.{if}
use Rattle.class.specs.Class.{Classes}
use Rattle.name.specs.Name.{valid_name}
use Rattle.length.specs.Length.{length_at, measured}
use Rattle.parts.specs.Parts.{edit_kind, edit_name}
use Rattle.edit.specs.declared.EditFault.{EditFault}
use Rattle.edit.specs.declared.EditFault.TheVariants.{Malformed, BadName}

-- "For 1 and 2 the id in raw bytes (20 or 32), for 2 the peeled id": as many ids as the kind's number, each of half as many bytes as digits
abbrev pub id_bytes : ℕ → ℕ → ℕ
id_bytes kind n = kind * (n / 2)

-- the end of the sentence below, once the length and what the ids take are known: "length 0 or over 4,096 (8), cut short anywhere behind it (7),
-- name rules (8)"
unfoldable pub named_edit : Classes → List ℕ → ℕ → ℕ → ℕ → Result ℕ EditFault
named_edit byte s from len ids =
    if (eqb len 0 || ltb 4096 len) (Err BadName)
    (if (leb (from + len + ids) (length s))
    (if (valid_name byte (edit_name s 0)) (Ok (from + len + ids)) (Err BadName))
    (Err Malformed))

-- "In each edit: kind (7), length form, an unfinished length included (7), length 0 or over 4,096 (8), cut short anywhere behind it (7),
-- name rules (8)." "Kind byte: 0 delete, 1 update, 2 update with peeled id."
unfoldable pub edit_of : Classes → ℕ → List ℕ → Result ℕ EditFault
edit_of byte n s =
    let kind = edit_kind s 0 in
    if (ltb 0 (length s) && leb kind 2)
    (measured (length_at s 1) (λ len from. named_edit byte s from len (id_bytes kind n)) (Err Malformed))
    (Err Malformed)

-- the paper's number for each fault: "edit list malformed"; "edit name empty, over 4,096 bytes, or breaking the name rules"
abbrev pub edit_fault_number : EditFault → ℕ
edit_fault_number Malformed = 7
edit_fault_number BadName = 8
