-- A record in lent bytes lies under the size limit, and so its parts are told as they are.
use mathlib.Core.Path.{◌≡◌, refl}
use mathlib.Core.List.{List}
use mathlib.Core.Bool.{false}
use Prim.Native.Nat.{ℕ, ◌≤◌}
use native.Mathlib.Omega.{arith}
use lib.ListN.{length, drop, length-drop}
use borrow.Author.Tests.{le-ltb, ltb-false}
use Rattle.class.specs.Class.{paper}
use Rattle.parse.specs.Limit.{over_limit}
use Rattle.decode.specs.declared.reference.Record.{Record}
use Rattle.decode.specs.Record.{record_of}
use Rattle.decode.proofs.Records.{Fits, fits}
use Rattle.tell.specs.Told.{Near, beyond_limit, parts_of, parts_told}
use Rattle.std.specs.declared.option.Option.{Option}
use Rattle.std.specs.declared.option.Option.TheVariants.{Some, None}
use Rattle.std.specs.declared.result.Result.TheVariants.{Ok}

-- a record that is read at a place of the bytes
abbrev pub Lies : ℕ → List ℕ → ℕ → Record → Type 0
Lies n s place r = (place ≤ length s) × (record_of paper n (drop place s) ≡ Ok r)

-- what is not over the limit is under it
pub within : (size : ℕ) → over_limit size ≡ false → size ≤ 1073741824
unfolding over_limit
within size e = ltb-false 1073741824 size e

under : (size : ℕ) → size ≤ 1073741824 → over_limit size ≡ false
unfolding over_limit
under size h = le-ltb 1073741824 size h

pub near : (n : ℕ) (s : List ℕ) (place : ℕ) (r : Record) → length s ≤ 1073741824 → Lies n s place r → Near place r
near n s place r small x = (omega (arith, x.0), go r.peeled refl)
  where
    f : Fits paper n (drop place s) r
    f = fits paper n (drop place s) r x.1

    go : (p : Option ℕ) → r.peeled ≡ p → beyond_limit p ≡ false
    go (Some at) q = under at (omega (arith, (f.peeled at q).1, f.inside, length-drop place s))
    go None q = refl

pub told_near : (kind place : ℕ) (r : Record) → Near place r → parts_told kind place r ≡ parts_of kind place r
unfolding parts_told
told_near kind place r h = rw (under place h.0, h.1)
