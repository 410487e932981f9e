-- A record at the front of the bytes s. n is the number of an id's digits.
use Rattle.std.specs.Prelude.{List, ℕ, ◌-◌, take, drop, Some, None, Result, Ok, Err}
use Rattle.parse.specs.Choice.{if}
use Rattle.class.specs.Class.{Classes}
use Rattle.parse.specs.Part.{then, byte_at}
use Rattle.id.specs.Id.{id_at}
use Rattle.parse.specs.Line.{newline_at, text_at, ended}
use Rattle.name.specs.Name.{valid_name}
use Rattle.decode.specs.declared.reference.Fault.{Fault}
use Rattle.decode.specs.declared.reference.Fault.TheVariants.{Id, Space, LineEnd, Name, Peeled}
use Rattle.decode.specs.declared.reference.Record.{Record}

-- "Record: id, one space, valid name, line end. If the next byte is `^`, then also id and line end.
-- Each part that can't be read ends the reading there, and the whole record is bad." A space is 32, `^` is 94
unfoldable pub record_of : Classes → ℕ → List ℕ → Result Record Fault
record_of byte n s =
    then (id_at byte n s 0)
    (λ idEnd.
    then (byte_at 32 s idEnd)
    (λ from.
    ended (text_at byte s from)
    (λ end next.
    if (valid_name byte (take (end - from) (drop from s)))
    (then (byte_at 94 s next)
    (λ peeled.
    then (id_at byte n s peeled)
    (λ peeledEnd.
    then (newline_at s peeledEnd)
    (λ size. Ok (record { name_len = end - from; peeled = Some peeled; size = size }))
    (Err Peeled))
    (Err Peeled))
    (Ok (record { name_len = end - from; peeled = None; size = next })))
    (Err Name))
    (Err LineEnd))
    (Err Space))
    (Err Id)

-- what comes of it: f of the record, or g of the part that can't be read
abbrev pub decoded {ℓ} : {A : Type ℓ} → Result Record Fault → (Record → A) → (Fault → A) → A
decoded (Ok r) f g = f r
decoded (Err why) f g = g why

-- "Replace 4 by five: 41 first id, 42 no space, 43 line not ended properly, 44 name, 45 anything in the `^` line. The first in that order counts"
abbrev pub fault_number : Fault → ℕ
fault_number Id = 41
fault_number Space = 42
fault_number LineEnd = 43
fault_number Name = 44
fault_number Peeled = 45
