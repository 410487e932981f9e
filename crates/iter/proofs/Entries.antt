-- A record that stands in a body: its item is as long as it, and says what it says at its place.
use mathlib.Core.Path.{◌≡◌, sym, ap, ◌∙◌}
use mathlib.Core.List.{List}
use Prim.Native.Nat.{ℕ}
use lib.ListN.{length, take, drop}
use lib.Seq.{length-take-le}
use Rattle.class.specs.Class.{paper}
use Rattle.decode.specs.declared.reference.Record.{Record}
use Rattle.decode.specs.Entry.{entry_of}
use Rattle.decode.specs.Record.{record_of}
use Rattle.decode.proofs.Entry.{entry_inside}
use Rattle.decode.proofs.Records.{fits}
use Rattle.iter.specs.Items.{Item, item_of}
use Rattle.iter.specs.Stands.{Stands}
use Rattle.iter.proofs.Each.{each}
use Rattle.iter.proofs.Items.{size_good}
use Rattle.std.specs.declared.result.Result.TheVariants.{Ok}

pub stands_as : (n : ℕ) (s : List ℕ) {place : ℕ} {it : Item} {r : Record} → Stands paper n s place it → it.what ≡ Ok r
    → (length it.bytes ≡ r.size) × (entry_of n it.bytes r ≡ entry_of n (drop place s) r)
stands_as n s {place} {it} {r} x reads =
    let t = drop place s in
    let e : it ≡ item_of paper n t = (each n s place it x).read in
    let q : record_of paper n t ≡ Ok r = sym (ap (λ (j : Item). j.what) e) ∙ reads in
    let b : it.bytes ≡ take r.size t = ap (λ (j : Item). j.bytes) e ∙ ap (λ (k : ℕ). take k t) (size_good paper n t r q) in
    (ap length b ∙ length-take-le r.size t (fits paper n t r q).inside, ap (λ (y : List ℕ). entry_of n y r) b ∙ entry_inside paper n t r q)
