-- All that a record says stands in its own bytes.
use mathlib.Core.Path.{◌≡◌, refl, ap}
use mathlib.Core.List.{List}
use mathlib.Core.Option.{some}
use Prim.Native.Nat.{ℕ, suc, ◌+◌, ◌<◌}
use native.Mathlib.Omega.{arith}
use lib.ListN.{take, drop}
use lib.Seq.{take-take}
use Rattle.class.specs.Class.{Classes}
use Rattle.parse.proofs.Slices.{part_of_front}
use Rattle.decode.specs.declared.reference.Record.{Record}
use Rattle.decode.specs.Entry.{peeled_id, entry_of}
use Rattle.decode.specs.Record.{record_of}
use Rattle.decode.proofs.Records.{fits}
use Rattle.std.specs.declared.option.Option.{Option}
use Rattle.std.specs.declared.option.Option.TheVariants.{None, Some}
use Rattle.std.specs.declared.result.Result.TheVariants.{Ok}

module _ (byte : Classes) (n : ℕ) (s : List ℕ) (r : Record) (e : record_of byte n s ≡ Ok r) where
  pub name_inside : take r.name_len (drop (n + 1) (take r.size s)) ≡ take r.name_len (drop (n + 1) s)
  name_inside = part_of_front r.name_len (n + 1) r.size s (omega (arith, (fits byte n s r e).holds))

  pub id_inside : take n (take r.size s) ≡ take n s
  id_inside = take-take n r.size s (omega (arith, (fits byte n s r e).holds))

  peeled_inside : peeled_id n (take r.size s) r.peeled ≡ peeled_id n s r.peeled
  peeled_inside = go r.peeled (fits byte n s r e).peeled
    where
      go : (p : Option ℕ) → ((at : ℕ) → p ≡ Some at → (suc n + r.name_len < at) × (at + n < r.size)) → peeled_id n (take r.size s) p ≡ peeled_id n s p
      go None h = refl
      go (Some at) h = ap some (part_of_front n at r.size s (omega (arith, (h at refl).1)))

  pub entry_inside : entry_of n (take r.size s) r ≡ entry_of n s r
  entry_inside = λ i. record { name = name_inside i; id = id_inside i; peeled = peeled_inside i }
