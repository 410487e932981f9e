-- In a body whose items pass the check, a lookup tells the entry of the name.
use mathlib.Core.Path.{◌≡◌, refl, sym, ap, ◌∙◌}
use mathlib.Core.Bool.{Bool, true, false}
use mathlib.Core.List.{List, [], ◌∷◌, ◌++◌}
use mathlib.Core.Option.{Option, none, some}
use Prim.Native.Nat.{ℕ, ◌<◌}
use native.Mathlib.Omega.{arith}
use lib.ListN.{length}
use Rattle.parse.specs.Choice.{if}
use Rattle.class.specs.Class.{paper}
use Rattle.name.specs.Name.{valid_name}
use Rattle.decode.specs.declared.reference.Record.{Record}
use Rattle.decode.specs.Entry.{Entry, entry_of}
use Rattle.decode.specs.Record.{decoded}
use Rattle.iter.specs.Entries.{entries_of}
use Rattle.iter.specs.Items.{Item, items, bytes_of, name_of}
use Rattle.checks.specs.Passes.{Passes}
use Rattle.iter.specs.Stands.{Stands}
use Rattle.iter.proofs.Entries.{stands_as}
use Rattle.find.specs.Present.{FoundExactly}
use Rattle.find.proofs.Found.{found_exactly}
use Rattle.compare.specs.Prefix.{same}
use Rattle.one_merge.specs.OneMerge.{entry_named, Shows, Tells}
use Rattle.compare.proofs.Prefixes.{same_is, same_self}
use Rattle.std.specs.declared.result.Result.{Result}
use Rattle.std.specs.declared.result.Result.TheVariants.{Err, Ok}
use Rattle.decode.specs.declared.reference.Fault.{Fault}

-- ---- the entry of a name among some items

module _ (n : ℕ) (name : List ℕ) where
  -- one of some items is a record of the name, and says the entry
  record HasEntry (l : List Item) (e : Entry) : Type 0 where
    before : List Item
    it : Item
    after : List Item
    all : l ≡ before ++ it ∷ after
    r : Record
    reads : it.what ≡ Ok r
    name_is : name_of n it ≡ name
    is : entry_of n it.bytes r ≡ e

  some_named : (l : List Item) {e : Entry} → entry_named name (entries_of n l) ≡ some e → HasEntry l e
  some_named [] h = absurd (let z : ◌≡◌ {A = ℕ} 0 1 = cc in omega arith)
  some_named (i ∷ l) {e} h = first i.what refl h (some_named l)
    where
      behind : HasEntry l e → HasEntry (i ∷ l) e
      behind x =
          record {
            before = i ∷ x.before;
            it = x.it;
            after = x.after;
            all = ap (λ (m : List Item). i ∷ m) x.all;
            r = x.r;
            reads = x.reads;
            name_is = x.name_is;
            is = x.is;
          }

      go : (r : Record) → i.what ≡ Ok r → (t : Bool) → same (entry_of n i.bytes r).name name ≡ t
          → if t (some (entry_of n i.bytes r)) (entry_named name (entries_of n l)) ≡ some e
          → (entry_named name (entries_of n l) ≡ some e → HasEntry l e) → HasEntry (i ∷ l) e
      go r w true q z ih =
          record { before = []; it = i; after = l; all = refl; r = r; reads = w; name_is = rw w (sym (same_is (entry_of n i.bytes r).name name q)); is = cc }
      go r w false q z ih = behind (ih z)

      first : (w : Result Record Fault) → i.what ≡ w → entry_named name (decoded w (λ r. entry_of n i.bytes r ∷ entries_of n l) (λ f. entries_of n l)) ≡ some e
          → (entry_named name (entries_of n l) ≡ some e → HasEntry l e) → HasEntry (i ∷ l) e
      first (Ok r) w h ih = go r w (same (entry_of n i.bytes r).name name) refl h ih
      first (Err f) w h ih = behind (ih h)

  none_named : (before : List Item) (it : Item) (after : List Item) (r : Record) → it.what ≡ Ok r
      → entry_named name (entries_of n (before ++ it ∷ after)) ≡ none → name_of n it ≡ name → ⊥
  none_named [] it after r w h e =
      let f = rw (w, rw w at e, same_self name) at h in
      let z : ◌≡◌ {A = ℕ} 0 1 = cc in
      omega arith
  none_named (b ∷ before) it after r w h e = first b.what h (none_named before it after r w)
    where
      rest : List Entry
      rest = entries_of n (before ++ it ∷ after)

      go : (t : Bool) (x : Entry) → if t (some x) (entry_named name rest) ≡ none → (entry_named name rest ≡ none → name_of n it ≡ name → ⊥) → ⊥
      go true x z ih = let w : ◌≡◌ {A = ℕ} 0 1 = cc in omega arith
      go false x z ih = ih z e

      first : (w : Result Record Fault) → entry_named name (decoded w (λ r. entry_of n b.bytes r ∷ rest) (λ f. rest)) ≡ none → (entry_named name rest ≡ none → name_of n it ≡ name → ⊥) → ⊥
      first (Ok x) z ih = go (same (entry_of n b.bytes x).name name) (entry_of n b.bytes x) z ih
      first (Err f) z ih = ih z e

-- ---- in a body that passes the check

module _
    (n : ℕ)
    (digits : 0 < n)
    (s : List ℕ)
    (count : ℕ)
    (passes : Passes n (items paper n s) count)
    (name : List ℕ)
    (valid : valid_name paper name ≡ true)
  where
    exact : FoundExactly n s name
    exact = found_exactly n digits s count passes name valid

    shows : (e : Entry) → HasEntry n name (items paper n s) e → Shows n s name e
    shows e x =
        let place = length (bytes_of x.before) in
        let stands : Stands paper n s place x.it = record { before = x.before; after = x.after; all = x.all; here = refl } in
        record {
          place = place;
          it = x.r;
          found = exact.found place x.r (record { it = x.it; stands = stands; good = x.reads; name_is = x.name_is });
          is = sym (stands_as n s stands x.reads).1 ∙ x.is;
        }

    pub body_tells : Tells n s name (entry_named name (entries_of n (items paper n s)))
    body_tells = go (entry_named name (entries_of n (items paper n s))) refl
      where
        go : (o : Option Entry) → entry_named name (entries_of n (items paper n s)) ≡ o → Tells n s name o
        go none h = exact.absent (λ place r m. none_named n name m.stands.before m.it m.stands.after r m.good (rw m.stands.all at h) m.name_is)
        go (some e) h = shows e (some_named n name (items paper n s) h)
