-- A record that a lookup tells lies in the lent bytes, which are under the size limit.
use mathlib.Core.Path.{◌≡◌, refl, sym, ap, ◌∙◌}
use mathlib.Core.Bool.{Bool, true, false}
use mathlib.Core.List.{List}
use Prim.Native.Nat.{ℕ, ◌-◌, ◌≤◌}
use native.Mathlib.Omega.{arith}
use lib.ListN.{length, drop, length-drop}
use Rattle.parse.specs.Choice.{if}
use Rattle.class.specs.Class.{paper}
use Rattle.parse.proofs.Admitted.{admitted, through}
use Rattle.name.specs.Name.{valid_name}
use Rattle.decode.specs.declared.reference.Record.{Record}
use Rattle.decode.specs.Record.{record_of, decoded}
use Rattle.header.proofs.Headers.{body_inside}
use Rattle.iter.specs.Items.{Item}
use Rattle.iter.specs.Stands.{Stands}
use Rattle.iter.proofs.Each.{each}
use Rattle.find.specs.declared.lookup.Lookup.TheVariants as lookup
use Rattle.ask.specs.declared.Told.TheVariants as told
use Rattle.search.specs.Search.{search_of}
use Rattle.find.specs.Lookup.{lookup_by, lookup_of, lookup_answer}
use Rattle.find.specs.PrefixStart.{place_of}
use Rattle.ask.specs.Ask.{ask_of, ask_answer}
use Rattle.find.proofs.Places.{search_inside}
use Rattle.ask.proofs.Trusted.{trusted}
use Rattle.tell.specs.Told.{Near}
use Rattle.tell.proofs.Near.{Lies, near}
use Rattle.checks.specs.declared.Refusal.{Refusal}
use Rattle.std.specs.declared.result.Result.{Result}
use Rattle.std.specs.declared.result.Result.TheVariants.{Err, Ok}
use Rattle.decode.specs.declared.reference.Fault.{Fault}
use Rattle.search.specs.declared.Miss.{Miss}

-- ---- the lookup

module _ (n : ℕ) (s name : List ℕ) {place : ℕ} {r : Record} where
  read_at : (at : ℕ) (w : Result Record Fault) → decoded w (λ found. lookup.Charted at found) (λ f. lookup.BadRecord at f) ≡ lookup.Charted place r → (at ≡ place) × (w ≡ Ok r)
  read_at at (Ok q) e = (cc, cc)
  read_at at (Err f) e = absurd (let z : ◌≡◌ {A = ℕ} 0 1 = cc in omega arith)

  lookup_by_lem : (found : Result ℕ Miss) → place_of found ≤ length s → lookup_by paper n s found ≡ lookup.Charted place r → Lies n s place r
  lookup_by_lem (Ok at) inside e =
      let (same, good) = read_at at (record_of paper n (drop at s)) e in
      (rw same at inside, rw same at good)
  lookup_by_lem (Err why) inside e = go why.failed e
    where
      go : (t : Bool) → if t lookup.Unsure lookup.Absent ≡ lookup.Charted place r → Lies n s place r
      go true h = absurd (let z : ◌≡◌ {A = ℕ} 0 1 = cc in omega arith)
      go false h = absurd (let z : ◌≡◌ {A = ℕ} 0 1 = cc in omega arith)

  lookup_read : lookup_of paper n s name ≡ lookup.Charted place r → Lies n s place r
  unfolding lookup_of
  lookup_read e = go (valid_name paper name) e
    where
      go : (t : Bool) → if t (lookup_by paper n s (search_of paper n s name)) lookup.BadName ≡ lookup.Charted place r → Lies n s place r
      go true h = lookup_by_lem (search_of paper n s name) (search_inside paper n s name refl) h
      go false h = absurd (let z : ◌≡◌ {A = ℕ} 0 1 = cc in omega arith)

pub lookup_near : (kind : ℕ) (s name : List ℕ) {place : ℕ} {r : Record}
    → lookup_answer kind s name ≡ Ok (lookup.Charted place r) → Near place r
unfolding lookup_answer
lookup_near kind s name {place} {r} e =
    let (n, digits, h) = through kind (length s) (length name) (λ n. Ok (lookup_of paper n s name)) e
    (λ q. let z : ◌≡◌ {A = ℕ} 0 1 = cc in omega arith) (λ q. let z : ◌≡◌ {A = ℕ} 0 1 = cc in omega arith) in
    near n s place r (admitted kind (length s) (length name) n digits).1 (lookup_read n s name {place = place} {r = r} cc)

-- ---- the lookup that can be trusted

-- an item that stands in the bytes was read there
stands_lies : (n : ℕ) (s : List ℕ) (place : ℕ) (it : Item) (r : Record) → Stands paper n s place it → it.what ≡ Ok r → Lies n s place r
stands_lies n s place it r h good =
    let at = each n s place it h in
    (omega (arith, at.inside), sym (ap (λ (i : Item). i.what) at.read) ∙ good)

pub ask_near : (kind : ℕ) (file name : List ℕ) {place : ℕ} {r : Record} {v : (Result ℕ Refusal)}
    → ask_answer kind file name ≡ Ok (told.Charted place r v) → Near place r
unfolding ask_answer
ask_near kind file name {place} {r} {v} e =
    let (n, digits, h) = through kind (length file) (length name) (λ n. Ok (ask_of paper n file name)) e
    (λ q. let z : ◌≡◌ {A = ℕ} 0 1 = cc in omega arith) (λ q. let z : ◌≡◌ {A = ℕ} 0 1 = cc in omega arith) in
    let (h, inner, opened, here, x, verdict) = (trusted n file name).charted place r v cc in
    let body = drop h.body file in
    let lies = stands_lies n body inner x.it r x.stands x.good in
    let l : length body ≡ length file - h.body = length-drop h.body file in
    let small = (admitted kind (length file) (length name) n digits).1 in
    let k = near n body inner r (omega (arith, small)) lies in
    (omega (arith, small, here, body_inside paper file h opened, lies.0), k.1)
