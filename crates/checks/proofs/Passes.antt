-- What the check means: items pass it, or one of them is the first fault, and the verdict says which.
use mathlib.Core.Path.{◌≡◌, refl, ap, ◌∙◌}
use mathlib.Core.Bool.{true, false, and-eq-true_iff}
use mathlib.Core.List.{List, [], ◌∷◌, ◌++◌, append-nil}
use mathlib.Core.Logic.{◌⊎◌, inl, inr}
use Prim.Native.Nat.{ℕ, suc, ◌+◌}
use native.Mathlib.Nat.{add-zero}
use native.Mathlib.Omega.{arith}
use lib.ListN.{length, length-append}
use Rattle.parse.specs.Choice.{if}
use Rattle.compare.specs.Order.{order_of, is_less, smaller}
use Rattle.decode.specs.declared.reference.Fault.{Fault}
use Rattle.decode.specs.Record.{decoded}
use Rattle.checks.specs.declared.Refusal.{Refusal}
use Rattle.checks.specs.declared.Refusal.TheVariants.{BadHeader, BadRecord, Unsorted}
use Rattle.iter.specs.Items.{Item, bytes_of, name_of}
use Rattle.checks.specs.Check.{judge}
use Rattle.checks.specs.Passes.{is_good, all_good, IsAscending, Passes, last_name, FirstFault, FirstError, FirstUnsorted}
use Rattle.std.specs.declared.cmp.Ordering.{Ordering}
use Rattle.std.specs.declared.cmp.Ordering.TheVariants.{Equal, Greater, Less}
use Rattle.std.specs.declared.result.Result.{Result}
use Rattle.std.specs.declared.result.Result.TheVariants.{Err, Ok}
use Rattle.decode.specs.declared.reference.Record.{Record}

-- ---- one item: it stops the check, or the check goes on

pub data Stop (n : ℕ) (last : List ℕ) (i : Item) : Type 0 where
  error : (f : Fault) → i.what ≡ Err f → Stop n last i
  unsorted : is_good i.what ≡ true → (order_of last (name_of n i) ≡ Less → ⊥) → Stop n last i

pub record Goes (n : ℕ) (last : List ℕ) (i : Item) : Type 0 where
  pub good : is_good i.what ≡ true
  pub up : order_of last (name_of n i) ≡ Less

turn : (n : ℕ) (last : List ℕ) (i : Item) → Stop n last i ⊎ Goes n last i
turn n last i = go i.what refl (order_of last (name_of n i)) refl
  where
    go : (w : Result Record Fault) → i.what ≡ w → (o : Ordering) → order_of last (name_of n i) ≡ o → Stop n last i ⊎ Goes n last i
    go (Err f) e o u = inl (error f e)
    go (Ok r) e Less u = inr (record { good = rw e; up = u })
    go (Ok r) e Equal u = inl (unsorted (rw e) (λ z. let x : ◌≡◌ {A = ℕ} 0 1 = cc in omega arith))
    go (Ok r) e Greater u = inl (unsorted (rw e) (λ z. let x : ◌≡◌ {A = ℕ} 0 1 = cc in omega arith))

good_else : (w : Result Record Fault) (place : ℕ) (v : Result ℕ Refusal) → is_good w ≡ true → decoded w (λ r. v) (λ f. Err (BadRecord place f)) ≡ v
good_else (Ok r) place v g = refl
good_else (Err f) place v g = cc

not_less : (o : Ordering) → (o ≡ Less → ⊥) → is_less o ≡ false
not_less Less h = absurd (h refl)
not_less Equal h = refl
not_less Greater h = refl

abbrev refusal : {n : ℕ} {last : List ℕ} {i : Item} → Stop n last i → ℕ → Refusal
refusal (error f e) place = BadRecord place f
refusal (unsorted g u) place = Unsorted place

module _ (n place count : ℕ) (last : List ℕ) (i : Item) (l : List Item) where
  -- what a good record comes to
  abbrev by_name : Result ℕ Refusal
  by_name = if (smaller last (name_of n i)) (judge n (place + length i.bytes) (suc count) (name_of n i) l) (Err (Unsorted place))

  judge_stop : (x : Stop n last i) → judge n place count last (i ∷ l) ≡ Err (refusal x place)
  judge_stop (error f e) = rw e
  judge_stop (unsorted g u) = rw (good_else i.what place by_name g, not_less (order_of last (name_of n i)) u)

  judge_go : Goes n last i → judge n place count last (i ∷ l) ≡ judge n (place + length i.bytes) (suc count) (name_of n i) l
  judge_go h = rw (good_else i.what place by_name h.good, h.up)

-- ---- some items: none of them stops the check, or one is the first that does

-- the check of the items l gets past those before, which are records in ascending order, and comes to it
pub record Reached (n : ℕ) (last : List ℕ) (l before : List Item) (it : Item) : Type 0 where
  pub after : List Item
  pub all : l ≡ before ++ it ∷ after
  pub good : all_good before ≡ true
  pub up : IsAscending n last before

pub data Outcome (n : ℕ) (last : List ℕ) (l : List Item) : Type 0 where
  passes : all_good l ≡ true → IsAscending n last l → Outcome n last l
  stops : (before : List Item) (it : Item) → Reached n last l before it → Stop n (last_name n last before) it → Outcome n last l

pub outcome : (n : ℕ) (last : List ℕ) (l : List Item) → Outcome n last l
outcome n last [] = passes refl tt
outcome n last (i ∷ l) = go (turn n last i) (outcome n (name_of n i) l)
  where
    both : (m : List Item) → Goes n last i → all_good m ≡ true → all_good (i ∷ m) ≡ true
    both m h g = (and-eq-true_iff (is_good i.what) (all_good m)).1 (h.good, g)

    go : Stop n last i ⊎ Goes n last i → Outcome n (name_of n i) l → Outcome n last (i ∷ l)
    go (inl x) ih = stops [] i (record { after = l; all = refl; good = refl; up = tt }) x
    go (inr h) (passes g u) = passes (both l h g) (h.up, u)
    go (inr h) (stops before it r x) =
        stops (i ∷ before) it
        (record { after = r.after; all = ap (λ (m : List Item). i ∷ m) r.all; good = both before h r.good; up = (h.up, r.up) }) x

judge_past : (n place count : ℕ) (last : List ℕ) (before rest : List Item) → all_good before ≡ true → IsAscending n last before
    → judge n place count last (before ++ rest) ≡ judge n (place + length (bytes_of before)) (count + length before) (last_name n last before) rest
judge_past n place count last [] rest g u = rw (add-zero place, add-zero count)
judge_past n place count last (i ∷ before) rest g u =
    let h = (and-eq-true_iff (is_good i.what) (all_good before)).0 g in
    let p : place + length (i.bytes ++ bytes_of before) ≡ place + length i.bytes + length (bytes_of before) = omega (arith, length-append i.bytes (bytes_of before)) in
    let c : count + suc (length before) ≡ suc count + length before = omega arith in
    judge_go n place count last i (before ++ rest) (record { good = h.0; up = u.0 })
    ∙ judge_past n (place + length i.bytes) (suc count) (name_of n i) before rest h.1 u.1
    ∙ rw (p, c)

-- ---- the verdict on items that begin at a place

module _ (n begin : ℕ) (l : List Item) where
  judge_passes : all_good l ≡ true → IsAscending n [] l → judge n begin 0 [] l ≡ Ok (0 + length l)
  judge_passes g u = rw (append-nil l) at (judge_past n begin 0 [] l [] g u)

  judge_stops : {before : List Item} {it : Item} → Reached n [] l before it → (x : Stop n (last_name n [] before) it)
      → judge n begin 0 [] l ≡ Err (refusal x (begin + length (bytes_of before)))
  judge_stops {before} {it} r x =
      ap (judge n begin 0 []) r.all ∙ judge_past n begin 0 [] before (it ∷ r.after) r.good r.up
      ∙ judge_stop n (begin + length (bytes_of before)) (0 + length before) (last_name n [] before) it r.after x

  -- from what the items are to the verdict

  pub judges : {m : ℕ} → Passes n l m → judge n begin 0 [] l ≡ Ok m
  judges h = judge_passes h.good h.up ∙ ap Ok (omega (arith, h.number))

  reached : {place : ℕ} → (x : FirstFault n begin l place) → Reached n [] l x.before x.it
  reached x = record { after = x.after; all = x.all; good = x.good; up = x.up }

  pub judges_error : {place : ℕ} {f : Fault} → FirstError n begin l place f → judge n begin 0 [] l ≡ Err (BadRecord place f)
  judges_error {place} {f} h = rw h.first.here (judge_stops (reached h.first) (error f h.is))

  pub judges_unsorted : {place : ℕ} → FirstUnsorted n begin l place → judge n begin 0 [] l ≡ Err (Unsorted place)
  judges_unsorted h = rw h.first.here (judge_stops (reached h.first) (unsorted h.good h.not_greater))

  -- and back: what a verdict says of the items, and that it is true

  abbrev pub Says : Result ℕ Refusal → Type 0
  Says (Ok m) = Passes n l m
  Says (Err (BadHeader text)) = ⊥
  Says (Err (BadRecord place f)) = FirstError n begin l place f
  Says (Err (Unsorted place)) = FirstUnsorted n begin l place

  abbrev fault : {before : List Item} {it : Item} → Reached n [] l before it → FirstFault n begin l (begin + length (bytes_of before))
  fault {before} {it} r = record { before = before; it = it; after = r.after; all = r.all; good = r.good; up = r.up; here = refl }

  pub says : Says (judge n begin 0 [] l)
  says = go (outcome n [] l)
    where
      go : Outcome n [] l → Says (judge n begin 0 [] l)
      go (passes g u) = rw (judge_passes g u) (record { good = g; up = u; number = omega arith })
      go (stops before it r (error f w)) = rw (judge_stops r (error f w)) (record { first = fault r; is = w })
      go (stops before it r (unsorted g w)) = rw (judge_stops r (unsorted g w)) (record { first = fault r; good = g; not_greater = w })

  pub judged : {m : ℕ} → judge n begin 0 [] l ≡ Ok m → Passes n l m
  judged v = rw v at says
