-- What a record says: its name, its id, and its peeled id if it has one. Both ids are in digits.
use Rattle.std.specs.Prelude.{List, ℕ, ◌+◌, take, drop}
use Rattle.std.proofs.Math.Option.{Option, none, some}
use Rattle.std.specs.declared.option.Option as std
use Rattle.std.specs.declared.option.Option.TheVariants.{Some, None}
use Rattle.decode.specs.declared.reference.Record.{Record}

pub record Entry : Type 0 where
  pub name : List ℕ
  pub id : List ℕ
  pub peeled : Option (List ℕ)

-- the peeled id, where one stands at a place
abbrev pub peeled_id : ℕ → List ℕ → std.Option ℕ → Option (List ℕ)
peeled_id n s None = none
peeled_id n s (Some at) = some (take n (drop at s))

-- what the record r at the front of the bytes s says, with ids of n digits: the id stands first, the name behind it and one byte
abbrev pub entry_of : ℕ → List ℕ → Record → Entry
entry_of n s r = record { name = take r.name_len (drop (n + 1) s); id = take n s; peeled = peeled_id n s r.peeled }
