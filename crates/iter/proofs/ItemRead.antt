-- What a loop over the items knows where it has read one. For any classes.
use mathlib.Core.Path.{◌≡◌, sym, ap, ◌∙◌}
use mathlib.Core.List.{List}
use Prim.Native.Nat.{ℕ, ◌+◌, ◌-◌, ◌≤◌, ◌<◌}
use lib.ListN.{length, take, drop}
use Rattle.class.specs.Class.{Classes}
use Rattle.parse.proofs.Slices.{rest_is}
use Rattle.decode.specs.declared.reference.Record.{Record}
use Rattle.decode.specs.Record.{record_of}
use Rattle.iter.proofs.Turns.{next_inside}
use Rattle.std.specs.declared.result.Result.{Result}
use Rattle.std.specs.declared.result.Result.TheVariants.{Ok}
use Rattle.decode.specs.declared.reference.Fault.{Fault}

pub record Reads (byte : Classes) (n : ℕ) (file : List ℕ) (place : ℕ) (what : Result Record Fault) : Type 0 where
  pub inside : place < length file
  pub is : record_of byte n (drop place file) ≡ what

module _ {byte : Classes} {n : ℕ} {file : List ℕ} {place : ℕ} where
  -- it is read off the slice from the place on
  pub reads : {what : Result Record Fault} → place < length file → what ≡ record_of byte n (take (length file - place) (drop place file)) → Reads byte n file place what
  reads inside e = record { inside = inside; is = sym (e ∙ ap (record_of byte n) (rest_is file place)) }

  pub told : {what which : Result Record Fault} → Reads byte n file place what → what ≡ which → Reads byte n file place which
  told k e = record { inside = k.inside; is = k.is ∙ e }

  module _ {r : Record} (k : Reads byte n file place (Ok r)) where
    pub goes_on : (place < place + r.size) × (place + r.size ≤ length file)
    goes_on = next_inside byte n file place r k.is k.inside

    abbrev pub named : List ℕ
    named = take r.name_len (drop (n + 1) (drop place file))

    -- the name is cut out of that slice
    pub named_is : {x : List ℕ} → x ≡ take r.name_len (drop (n + 1) (take (length file - place) (drop place file))) → x ≡ named
    named_is e = e ∙ ap (λ s. take r.name_len (drop (n + 1) s)) (rest_is file place)
