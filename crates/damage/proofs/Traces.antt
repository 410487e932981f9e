-- Items handed out one after another, cut at a place: those that end before it, and those that begin from it on.
use mathlib.Core.Path.{◌≡◌, refl, sym, ap}
use mathlib.Core.Bool.{Bool, true, false, and-eq-true_iff}
use mathlib.Core.List.{List, [], ◌∷◌, ◌++◌}
use mathlib.Core.Option.{Option}
use Prim.Native.Nat.{ℕ, zero, suc, ◌+◌, ◌-◌, ◌≤◌, ◌<◌}
use native.Mathlib.Omega.{arith}
use lib.Dec.{leb, ltb}
use lib.ListN.{length, length-append}
use borrow.Author.Tests.{leb-true, leb-false, le-leb, lt-leb, ltb-true, ltb-false, lt-ltb, le-ltb}
use Rattle.parse.specs.Choice.{if}
use Rattle.decode.specs.Entry.{entry_of}
use Rattle.iter.specs.Items.{Item, bytes_of}
use Rattle.handed.specs.Handed.{Handed, good, error, Given, line_over, handed_by, handed_at, handed, whats}
use Rattle.handed.specs.Lines.{Each}
use Rattle.checks.specs.Passes.{is_good, all_good}
use Rattle.damage.specs.Damage.{ending_before, beginning_from, record_by, records_in}
use Rattle.damage.proofs.Cuts.{end_before, begin_from, begin_all}
use Rattle.std.specs.declared.result.Result.{Result}
use Rattle.std.specs.declared.result.Result.TheVariants.{Err, Ok}
use Rattle.decode.specs.declared.reference.Fault.{Fault}
use Rattle.decode.specs.declared.reference.Record.{Record}

module _ (n : ℕ) where
  -- ---- those that end before a place

  none_ending : (place at : ℕ) (line : Option ℕ) (l : List Item) → place ≤ at → ending_before place (handed n at line l) ≡ []
  none_ending place at line [] h = refl
  none_ending place at line (i ∷ l) h =
      rw (le-ltb (at + length i.bytes) place (omega arith)) (none_ending place (at + length i.bytes) (line_over line i) l (omega arith))

  pub ending : (k at : ℕ) (line : Option ℕ) (l : List Item) → ending_before (at + k) (handed n at line l) ≡ handed n at line (end_before k l)
  ending k at line [] = refl
  ending k at line (i ∷ l) = go (ltb (length i.bytes) k) refl (ending (k - length i.bytes) (at + length i.bytes) (line_over line i) l)
    where
      j : ℕ
      j = length i.bytes

      go : (v : Bool) → ltb j k ≡ v
          → ending_before (at + j + (k - j)) (handed n (at + j) (line_over line i) l) ≡ handed n (at + j) (line_over line i) (end_before (k - j) l)
          → ending_before (at + k) (handed n at line (i ∷ l)) ≡ handed n at line (end_before k (i ∷ l))
      go true v ih =
          let z : at + j + (k - j) ≡ at + k = omega (arith, ltb-true j k v) in
          rw (v, lt-ltb (at + j) (at + k) (omega (arith, ltb-true j k v))) (ap (λ (x : List Given). handed_at n at line i ∷ x) (rw z at ih))
      go false v ih =
          rw (v, le-ltb (at + j) (at + k) (omega (arith, ltb-false j k v))) (none_ending (at + k) (at + j) (line_over line i) l (omega (arith, ltb-false j k v)))

  -- ---- those that begin from a place on

  pub all_from : (place at : ℕ) (line : Option ℕ) (l : List Item) → place ≤ at → beginning_from place (handed n at line l) ≡ handed n at line l
  all_from place at line [] h = refl
  all_from place at line (i ∷ l) h =
      rw (le-leb place at h) (ap (λ (x : List Given). handed_at n at line i ∷ x) (all_from place (at + length i.bytes) (line_over line i) l (omega arith)))

  -- they are the items that begin there, handed out from where these stand; the bytes of all items and of these tell where
  pub record Begun (k at : ℕ) (line : Option ℕ) (l : List Item) : Type 0 where
    pub place : ℕ
    pub counted : Option ℕ
    pub is : beginning_from (at + k) (handed n at line l) ≡ handed n place counted (begin_from k l)
    pub where_is : place + length (bytes_of (begin_from k l)) ≡ at + length (bytes_of l)

  pub begun : (k at : ℕ) (line : Option ℕ) (l : List Item) → Begun k at line l
  begun k at line [] = record { place = at; counted = line; is = refl; where_is = refl }
  begun zero at line (i ∷ l) = record { place = at; counted = line; is = all_from (at + 0) at line (i ∷ l) (omega arith); where_is = refl }
  begun (suc k) at line (i ∷ l) = go (leb j (suc k)) refl (begun (suc k - j) (at + j) (line_over line i) l)
    where
      j : ℕ
      j = length i.bytes

      go : (v : Bool) → leb j (suc k) ≡ v → Begun (suc k - j) (at + j) (line_over line i) l → Begun (suc k) at line (i ∷ l)
      go true v b =
          let z : at + j + (suc k - j) ≡ at + suc k = omega (arith, leb-true j (suc k) v) in
          record {
            place = b.place;
            counted = b.counted;
            is = rw (lt-leb (at + suc k) at (omega arith)) (rw z at b.is);
            where_is = omega (arith, b.where_is, length-append i.bytes (bytes_of l));
          }
      go false v b =
          let z : suc k - j ≡ 0 = omega (arith, leb-false j (suc k) v) in
          record {
            place = at + j;
            counted = line_over line i;
            is = rw (lt-leb (at + suc k) at (omega arith), z, begin_all l) (all_from (at + suc k) (at + j) (line_over line i) l (omega (arith, leb-false j (suc k) v)));
            where_is = rw (z, begin_all l) (omega (arith, length-append i.bytes (bytes_of l)));
          }

  -- what does not begin there stands before all that does
  pub cut_from : (place at : ℕ) (line : Option ℕ) (l : List Item) → (before : List Given) × (handed n at line l ≡ before ++ beginning_from place (handed n at line l))
  cut_from place at line [] = ([], refl)
  cut_from place at line (i ∷ l) = go (leb place at) refl (cut_from place (at + length i.bytes) (line_over line i) l)
    where
      first : Given
      first = handed_at n at line i

      rest : List Given
      rest = handed n (at + length i.bytes) (line_over line i) l

      go : (v : Bool) → leb place at ≡ v → (before : List Given) × (rest ≡ before ++ beginning_from place rest)
          → (before : List Given) × (first ∷ rest ≡ before ++ beginning_from place (first ∷ rest))
      go true v ih = ([], rw v (ap (λ (x : List Given). first ∷ x) (sym (all_from place (at + length i.bytes) (line_over line i) l (omega (arith, leb-true place at v))))))
      go false v (before, e) = (first ∷ before, rw v (ap (λ (x : List Given). first ∷ x) e))

  -- ---- one after another

  pub record Joined (at : ℕ) (line : Option ℕ) (l m : List Item) : Type 0 where
    pub place : ℕ
    pub counted : Option ℕ
    pub is : handed n at line (l ++ m) ≡ handed n at line l ++ handed n place counted m

  pub joined : (at : ℕ) (line : Option ℕ) (l m : List Item) → Joined at line l m
  joined at line [] m = record { place = at; counted = line; is = refl }
  joined at line (i ∷ l) m =
      let b = joined (at + length i.bytes) (line_over line i) l m in
      record { place = b.place; counted = b.counted; is = ap (λ (x : List Given). handed_at n at line i ∷ x) b.is }

  -- of what ends before a place, nothing begins behind it
  pub none_from : (place at : ℕ) (line : Option ℕ) (l : List Item) → at + length (bytes_of l) < place → beginning_from place (handed n at line l) ≡ []
  none_from place at line [] h = refl
  none_from place at line (i ∷ l) h =
      rw (lt-leb place at (omega arith)) (none_from place (at + length i.bytes) (line_over line i) l (omega (arith, length-append i.bytes (bytes_of l))))

  pub beginning_append : (place : ℕ) (l m : List Given) → beginning_from place (l ++ m) ≡ beginning_from place l ++ beginning_from place m
  beginning_append place [] m = refl
  beginning_append place (g ∷ l) m = go (leb place g.place) (beginning_append place l m)
    where
      go : (v : Bool) → beginning_from place (l ++ m) ≡ beginning_from place l ++ beginning_from place m
          → if v (g ∷ beginning_from place (l ++ m)) (beginning_from place (l ++ m)) ≡ if v (g ∷ beginning_from place l) (beginning_from place l) ++ beginning_from place m
      go true e = ap (λ (x : List Given). g ∷ x) e
      go false e = e

  -- ---- where all items are records, place and number do not show, and there is no error

  good_what : (a b : Option ℕ) (bytes : List ℕ) (w : Result Record Fault) → is_good w ≡ true → handed_by n a bytes w ≡ handed_by n b bytes w
  good_what a b bytes (Ok r) h = refl
  good_what a b bytes (Err f) h = cc

  pub records_alike : (at : ℕ) (line : Option ℕ) (at' : ℕ) (line' : Option ℕ) (l : List Item) → all_good l ≡ true → records_in (handed n at line l) ≡ whats (handed n at' line' l)
  records_alike at line at' line' [] g = refl
  records_alike at line at' line' (i ∷ l) g =
      let both = (and-eq-true_iff (is_good i.what) (all_good l)).0 g in
      go i.what both.0 (records_alike (at + length i.bytes) (line_over line i) (at' + length i.bytes) (line_over line' i) l both.1)
    where
      rest : List Given
      rest = handed n (at + length i.bytes) (line_over line i) l

      rest' : List Given
      rest' = handed n (at' + length i.bytes) (line_over line' i) l

      go : (w : Result Record Fault) → is_good w ≡ true → records_in rest ≡ whats rest'
          → record_by (handed_by n line i.bytes w) (records_in rest) ≡ handed_by n line' i.bytes w ∷ whats rest'
      go (Ok r) h e = ap (λ (x : List Handed). good (entry_of n i.bytes r) ∷ x) e
      go (Err f) h e = cc

  pub no_errors : (P : Given → Type 0) (at : ℕ) (line : Option ℕ) (l : List Item) → all_good l ≡ true
      → Each (λ g. (k : ℕ) (text : List ℕ) → g.what ≡ error k text → P g) (handed n at line l)
  no_errors P at line [] g = tt
  no_errors P at line (i ∷ l) g =
      let both = (and-eq-true_iff (is_good i.what) (all_good l)).0 g in
      (go i.what both.0, no_errors P (at + length i.bytes) (line_over line i) l both.1)
    where
      go : (w : Result Record Fault) → is_good w ≡ true → (k : ℕ) (text : List ℕ) → handed_by n line i.bytes w ≡ error k text → P (handed_at n at line i)
      go (Ok r) h k text e = absurd (let z : ◌≡◌ {A = ℕ} 0 1 = cc in omega arith)
      go (Err f) h k text e = absurd (let z : ◌≡◌ {A = ℕ} 0 1 = cc in omega arith)

  pub later : (at : ℕ) (line : Option ℕ) (l : List Item) (place : ℕ) → place ≤ at → Each (λ g. place ≤ g.place) (handed n at line l)
  later at line [] place h = tt
  later at line (i ∷ l) place h = (h, later (at + length i.bytes) (line_over line i) l place (omega arith))
