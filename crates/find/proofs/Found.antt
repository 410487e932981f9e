-- "Behind the header of a file that passes the check, a valid name is found exactly if a record has it."
use mathlib.Core.Path.{◌≡◌, refl, sym, ap, ◌∙◌}
use mathlib.Core.Bool.{true, false}
use mathlib.Core.List.{List}
use mathlib.Core.Logic.{◌⊎◌, inl, inr}
use Prim.Native.Nat.{ℕ, ◌<◌}
use native.Mathlib.Omega.{arith}
use lib.ListN.{drop}
use Rattle.class.specs.Class.{paper}
use Rattle.name.specs.Name.{valid_name}
use Rattle.decode.specs.declared.reference.Record.{Record}
use Rattle.decode.specs.Record.{record_of}
use Rattle.iter.specs.Items.{Item, items, name_of}
use Rattle.checks.specs.Passes.{is_good, Passes}
use Rattle.iter.specs.Stands.{Stands, Named}
use Rattle.iter.proofs.Each.{each}
use Rattle.find.specs.declared.lookup.Lookup.TheVariants.{Charted, Absent}
use Rattle.search.specs.Search.{search_of, missed}
use Rattle.find.specs.Lookup.{lookup_of}
use Rattle.find.specs.Present.{FoundExactly}
use Rattle.checks.proofs.Ascending.{one_named}
use Rattle.find.proofs.Checked.{Checked, checked, good_at}
use Rattle.find.proofs.Searched.{Searched, hit, miss, searched}
use Rattle.find.proofs.Sides.{side}
use Rattle.std.specs.declared.result.Result.{Result}
use Rattle.std.specs.declared.result.Result.TheVariants.{Err, Ok}
use Rattle.decode.specs.declared.reference.Fault.{Fault}

pub good_record : (w : Result Record Fault) → is_good w ≡ true → (r : Record) × (w ≡ Ok r)
good_record (Ok r) h = (r, refl)
good_record (Err f) h = absurd (let z : ◌≡◌ {A = ℕ} 0 1 = cc in omega arith)

-- ---- at most one record has a name

one_place : {n : ℕ} {s name : List ℕ} {a b : ℕ} {i j : Item} → Checked n s → Stands paper n s a i → name_of n i ≡ name
    → Stands paper n s b j → name_of n j ≡ name → a ≡ b
one_place c x p y q = (one_named _ c.up x p y q).0

-- ---- the lookup, by what the search comes to

module _ {n : ℕ} {s : List ℕ} (c : Checked n s) (name : List ℕ) (valid : valid_name paper name ≡ true) where
  lookup_hit : {place : ℕ} {it : Item} {r : Record} → search_of paper n s name ≡ Ok place → Stands paper n s place it → it.what ≡ Ok r
      → lookup_of paper n s name ≡ Charted place r
  unfolding lookup_of
  lookup_hit {place} {it} e x g =
      let read : record_of paper n (drop place s) ≡ it.what = ap (λ (i : Item). i.what) (sym (each n s place it x).read) in
      rw (valid, e, read, g)

  lookup_miss : {place : ℕ} → search_of paper n s name ≡ missed place false → lookup_of paper n s name ≡ Absent
  unfolding lookup_of
  lookup_miss e = rw (valid, e)

  found : Searched c name → (place : ℕ) (r : Record) → Named n s name place r → lookup_of paper n s name ≡ Charted place r
  found (hit x e h) place r m = lookup_hit (h ∙ ap Ok (one_place c x e m.stands m.name_is)) m.stands m.good
  found (miss nobody h) place r m = absurd (nobody place m.it m.stands m.name_is)

  only : Searched c name → (place : ℕ) (r : Record) → lookup_of paper n s name ≡ Charted place r → Named n s name place r
  only (hit {place = a} {it} x e h) place r l =
      let (q, g) = good_record it.what (good_at c x) in
      let k : lookup_of paper n s name ≡ Charted a q = lookup_hit h x g in
      let z : a ≡ place = cc in
      let y : q ≡ r = cc in
      record { it = it; stands = rw z at x; good = g ∙ ap Ok y; name_is = e }
  only (miss nobody h) place r l = absurd (let k = lookup_miss h in let z : ◌≡◌ {A = ℕ} 0 1 = cc in omega arith)

  absent : Searched c name → ((place : ℕ) (r : Record) → Named n s name place r → ⊥) → lookup_of paper n s name ≡ Absent
  absent (hit {place = a} {it} x e h) none =
      let (q, g) = good_record it.what (good_at c x) in
      absurd (none a q (record { it = it; stands = x; good = g; name_is = e }))
  absent (miss nobody h) none = lookup_miss h

  either : Searched c name → ((place : ℕ) × (r : Record) × (lookup_of paper n s name ≡ Charted place r)) ⊎ (lookup_of paper n s name ≡ Absent)
  either (hit {place = a} {it} x e h) =
      let (q, g) = good_record it.what (good_at c x) in
      inl (a, q, lookup_hit h x g)
  either (miss nobody h) = inr (lookup_miss h)

pub found_exactly : (n : ℕ) → 0 < n → (s : List ℕ) (count : ℕ) → Passes n (items paper n s) count → (name : List ℕ) → valid_name paper name ≡ true
    → FoundExactly n s name
found_exactly n pos s count passes name valid =
    let c : Checked n s = checked pos passes in
    let by : Searched c name = searched c name in
    record {
      found = found c name valid by;
      only = only c name valid by;
      absent = absent c name valid by;
      either = either c name valid by;
      reads = λ place h. (side c name place h).reads;
    }
