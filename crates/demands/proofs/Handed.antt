-- What is handed out of a body, and its items: each stands for the other.
use mathlib.Core.Path.{◌≡◌, refl, sym, ap, ◌∙◌}
use mathlib.Core.Bool.{Bool, true, false, and-eq-true_iff}
use mathlib.Core.List.{List, [], ◌∷◌, ◌++◌}
use mathlib.Core.Option.{Option}
use Prim.Native.Nat.{ℕ, ◌+◌}
use native.Mathlib.Nat.{add-zero}
use native.Mathlib.Omega.{arith}
use lib.ListN.{length, drop, length-append}
use Rattle.parse.specs.Choice.{if}
use Rattle.class.specs.Class.{paper}
use Rattle.compare.specs.Prefix.{begins}
use Rattle.decode.specs.declared.reference.Record.{Record}
use Rattle.decode.specs.Entry.{Entry, entry_of}
use Rattle.iter.specs.Items.{Item, items, bytes_of, name_of}
use Rattle.iter.specs.Stands.{Stands, Named}
use Rattle.iter.proofs.Entries.{stands_as}
use Rattle.handed.specs.Handed.{Handed, good, Given, given, line_over, handed_by, handed_at, handed, whats}
use Rattle.checks.specs.Passes.{is_good, all_good}
use Rattle.find.specs.Present.{with_prefix}
use Rattle.demands.specs.Found.{In, Has, wanted_by, wanted}
use Rattle.std.specs.declared.result.Result.{Result}
use Rattle.std.specs.declared.result.Result.TheVariants.{Err, Ok}
use Rattle.decode.specs.declared.reference.Fault.{Fault}

module _ (n : ℕ) where
  -- an line that is handed out, among some that begin at a place
  pub record FromItem (at : ℕ) (l : List Item) (g : Given) : Type 0 where
    pub before : List Item
    pub it : Item
    pub after : List Item
    pub line : Option ℕ
    pub all : l ≡ before ++ it ∷ after
    pub is : g ≡ handed_at n (at + length (bytes_of before)) line it

  pub from_item : (l : List Item) (at : ℕ) (line : Option ℕ) (before : List Given) (g : Given) (after : List Given) → handed n at line l ≡ before ++ g ∷ after → FromItem at l g
  from_item [] at line [] g after e = absurd (let z : ◌≡◌ {A = ℕ} 0 1 = cc in omega arith)
  from_item [] at line (b ∷ before) g after e = absurd (let z : ◌≡◌ {A = ℕ} 0 1 = cc in omega arith)
  from_item (i ∷ l) at line [] g after e =
      let z : g ≡ handed_at n at line i = cc in
      record { before = []; it = i; after = l; line = line; all = refl; is = rw (add-zero at) z }
  from_item (i ∷ l) at line (b ∷ before) g after e =
      let rest : handed n (at + length i.bytes) (line_over line i) l ≡ before ++ g ∷ after = cc in
      let x = from_item l (at + length i.bytes) (line_over line i) before g after rest in
      let z : at + length i.bytes + length (bytes_of x.before) ≡ at + length (i.bytes ++ bytes_of x.before) = omega (arith, length-append i.bytes (bytes_of x.before)) in
      record {
        before = i ∷ x.before;
        it = x.it;
        after = x.after;
        line = x.line;
        all = ap (λ (m : List Item). i ∷ m) x.all;
        is = rw z at x.is;
      }

  pub to_given : (before : List Item) (it : Item) (after : List Item) (at : ℕ) (line : Option ℕ)
      → (k : Option ℕ) × In (handed_at n (at + length (bytes_of before)) k it) (handed n at line (before ++ it ∷ after))
  to_given [] it after at line = (line, record { before = []; after = handed n (at + length it.bytes) (line_over line it) after; all = rw (add-zero at) })
  to_given (i ∷ before) it after at line =
      let (k, x) = to_given before it after (at + length i.bytes) (line_over line i) in
      let z : at + length i.bytes + length (bytes_of before) ≡ at + length (i.bytes ++ bytes_of before) = omega (arith, length-append i.bytes (bytes_of before)) in
      let y : In (handed_at n (at + length i.bytes + length (bytes_of before)) k it) (handed n at line (i ∷ (before ++ it ∷ after))) =
      record { before = handed_at n at line i ∷ x.before; after = x.after; all = ap (λ (l : List Given). handed_at n at line i ∷ l) x.all } in
      (k, rw z at y)

  -- ---- a record that stands in a body is handed out by its places

  module _ (s : List ℕ) where
    -- the record at a place of the body, where the body begins at a place
    abbrev pub told : ℕ → ℕ → Record → Given
    told at place r = given (at + place) (at + place + r.size) (good (entry_of n (drop place s) r))

    pub record Stood (at : ℕ) (wanted : List ℕ) (g : Given) : Type 0 where
      pub place : ℕ
      pub r : Record
      pub named : Named n s wanted place r
      pub is : told at place r ≡ g

    pub stood : (at : ℕ) (line : Option ℕ) (wanted : List ℕ) (g : Given) → In g (handed n at line (items paper n s)) → Has wanted g.what → Stood at wanted g
    stood at line wanted g x h =
        let y = from_item (items paper n s) at line x.before g x.after x.all in
        let place = length (bytes_of y.before) in
        let stands : Stands paper n s place y.it = record { before = y.before; after = y.after; all = y.all; here = refl } in
        let k : Has wanted (handed_by n y.line y.it.bytes y.it.what) = rw y.is at h in
        go y.it.what y refl stands k
      where
        go : (w : Result Record Fault) (y : FromItem at (items paper n s) g) → y.it.what ≡ w → Stands paper n s (length (bytes_of y.before)) y.it
            → Has wanted (handed_by n y.line y.it.bytes w) → Stood at wanted g
        go (Err f) y e stands k = absurd k
        go (Ok r) y e stands k =
            let (long, parts) = stands_as n s stands e in
            record {
              place = length (bytes_of y.before);
              r = r;
              named = record { it = y.it; stands = stands; good = e; name_is = rw e k };
              is = rw (y.is, e, long, parts);
            }

    pub stands_in : (at : ℕ) (line : Option ℕ) (wanted : List ℕ) (place : ℕ) (r : Record) → Named n s wanted place r
        → In (told at place r) (handed n at line (items paper n s)) × Has wanted (told at place r).what
    stands_in at line wanted place r x =
        let st = x.stands in
        let (long, parts) = stands_as n s st x.good in
        let (k, inside) = to_given st.before x.it st.after at line in
        let e : handed_at n (at + length (bytes_of st.before)) k x.it ≡ told at place r = rw (st.here, x.good, long, parts) in
        (rw e at (rw (sym st.all) at inside), ap (λ (y : Entry). y.name) (sym parts) ∙ (rw x.good at x.name_is))

  -- ---- among records, those with a prefix

  pub wanted_is : (prefix : List ℕ) (l : List Item) (at : ℕ) (line : Option ℕ) (at' : ℕ) (line' : Option ℕ) → all_good l ≡ true
      → whats (handed n at line (with_prefix n prefix l)) ≡ wanted prefix (whats (handed n at' line' l))
  wanted_is prefix [] at line at' line' g = refl
  wanted_is prefix (i ∷ l) at line at' line' g =
      let both = (and-eq-true_iff (is_good i.what) (all_good l)).0 g in
      go i.what refl both.0 (begins prefix (name_of n i)) refl
      (λ p k. wanted_is prefix l p k (at' + length i.bytes) (line_over line' i) both.1)
    where
      others : List Handed
      others = wanted prefix (whats (handed n (at' + length i.bytes) (line_over line' i) l))

      one : (y : Entry) (b : Bool) → begins prefix y.name ≡ b → wanted_by prefix (good y) others ≡ if b (good y ∷ others) others
      one y b e = ap (λ (v : Bool). if v (good y ∷ others) others) e

      go : (w : Result Record Fault) → i.what ≡ w → is_good w ≡ true → (b : Bool) → begins prefix (name_of n i) ≡ b
          → ((p : ℕ) (k : Option ℕ) → whats (handed n p k (with_prefix n prefix l)) ≡ others)
          → whats (handed n at line (if b (i ∷ with_prefix n prefix l) (with_prefix n prefix l)))
          ≡ wanted_by prefix (handed_by n line' i.bytes i.what) others
      go (Err f) e h b q ih = absurd (let z : ◌≡◌ {A = ℕ} 0 1 = cc in omega arith)
      go (Ok r) e h true q ih =
          rw e
          (ap (λ (m : List Handed). good (entry_of n i.bytes r) ∷ m) (ih (at + length i.bytes) (line_over line i))
          ∙ sym (one (entry_of n i.bytes r) true (rw e at q)))
      go (Ok r) e h false q ih = rw e (ih at line ∙ sym (one (entry_of n i.bytes r) false (rw e at q)))
