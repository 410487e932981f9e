-- The first record of a name among some items: one that has it, where one is told, and none where none is.
use mathlib.Core.Path.{◌≡◌, refl, ap, ◌∙◌}
use mathlib.Core.Bool.{Bool, true, false}
use mathlib.Core.List.{List, [], ◌∷◌, ◌++◌}
use Prim.Native.Nat.{ℕ, ◌+◌}
use native.Mathlib.Omega.{arith}
use lib.ListN.{length, length-append}
use Rattle.parse.specs.Choice.{if}
use Rattle.compare.specs.Prefix.{same}
use Rattle.compare.proofs.Prefixes.{same_is, same_self}
use Rattle.decode.specs.declared.reference.Record.{Record}
use Rattle.decode.specs.Record.{decoded}
use Rattle.iter.specs.Items.{Item, bytes_of, name_of}
use Rattle.ask.specs.Ask.{first_named, found_at}
use Rattle.ask.specs.declared.Found.{Found}
use Rattle.std.specs.declared.option.Option.{Option}
use Rattle.std.specs.declared.option.Option.TheVariants.{None, Some}
use Rattle.std.specs.declared.result.Result.{Result}
use Rattle.std.specs.declared.result.Result.TheVariants.{Err, Ok}
use Rattle.decode.specs.declared.reference.Fault.{Fault}

-- of some items that begin at a place, one is a record of the name, and the bytes of those before it reach to where it is told
pub record NamedAmong (n : ℕ) (name : List ℕ) (begin : ℕ) (l : List Item) (place : ℕ) (r : Record) : Type 0 where
  pub before : List Item
  pub it : Item
  pub after : List Item
  pub all : l ≡ before ++ it ∷ after
  pub here : place ≡ begin + length (bytes_of before)
  pub good : it.what ≡ Ok r
  pub name_is : name_of n it ≡ name

same_found : {a b : ℕ} {r t : Record} → found_at a r ≡ found_at b t → (a ≡ b) × (r ≡ t)
same_found {a} {r = r} e = (ap (λ (o : Option Found). elim o [ None ↦ a | Some f ↦ f.place ]) e, ap (λ (o : Option Found). elim o [ None ↦ r | Some f ↦ f.reading ]) e)

module _ (n : ℕ) (name : List ℕ) where
  pub told_at : (begin : ℕ) (l : List Item) {place : ℕ} {r : Record} → first_named n name begin l ≡ found_at place r → NamedAmong n name begin l place r
  told_at begin [] e = absurd (let z : ◌≡◌ {A = ℕ} 0 1 = cc in omega arith)
  told_at begin (i ∷ l) {place} {r} e = go i.what refl (same name (name_of n i)) refl e (told_at (begin + length i.bytes) l)
    where
      later : Option Found
      later = first_named n name (begin + length i.bytes) l

      behind : NamedAmong n name (begin + length i.bytes) l place r → NamedAmong n name begin (i ∷ l) place r
      behind x =
          record {
            before = i ∷ x.before;
            it = x.it;
            after = x.after;
            all = ap (λ (m : List Item). i ∷ m) x.all;
            here = omega (arith, x.here, length-append i.bytes (bytes_of x.before));
            good = x.good;
            name_is = x.name_is;
          }

      go : (w : Result Record Fault) → i.what ≡ w → (t : Bool) → same name (name_of n i) ≡ t → decoded w (λ r. if t (found_at begin r) later) (λ f. later) ≡ found_at place r
          → (later ≡ found_at place r → NamedAmong n name (begin + length i.bytes) l place r) → NamedAmong n name begin (i ∷ l) place r
      go (Ok f) q true s h ih =
          let (here, reading) = same_found h in
          record { before = []; it = i; after = l; all = refl; here = omega arith; good = q ∙ ap Ok reading; name_is = same_is name (name_of n i) s }
      go (Ok f) q false s h ih = behind (ih h)
      go (Err f) q t s h ih = behind (ih h)

  nowhere_behind : (w : Result Record Fault) (t : Bool) (place : ℕ) (later : Option Found) → decoded w (λ r. if t (found_at place r) later) (λ f. later) ≡ None → later ≡ None
  nowhere_behind (Ok r) true place later h = cc
  nowhere_behind (Ok r) false place later h = h
  nowhere_behind (Err f) t place later h = h

  pub told_nowhere : (begin : ℕ) (before : List Item) (it : Item) (after : List Item) {r : Record}
      → first_named n name begin (before ++ it ∷ after) ≡ None → it.what ≡ Ok r → name_of n it ≡ name → ⊥
  told_nowhere begin [] it after e good name_is =
      let f = rw (name_is, same_self name, good) at e in
      let z : ◌≡◌ {A = ℕ} 0 1 = cc in
      omega arith
  told_nowhere begin (b ∷ before) it after e good name_is =
      told_nowhere (begin + length b.bytes) before it after
      (nowhere_behind b.what (same name (name_of n b)) begin (first_named n name (begin + length b.bytes) (before ++ it ∷ after)) e) good name_is
