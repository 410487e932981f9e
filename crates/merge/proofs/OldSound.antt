-- The entries of items that are all good are sound, and where the items' names rise, so do theirs.
use mathlib.Core.Path.{◌≡◌, refl}
use mathlib.Core.Bool.{Bool, true, false}
use mathlib.Core.List.{List, [], ◌∷◌}
use Prim.Native.Nat.{ℕ, zero, suc, ◌+◌, ◌≤◌, ◌<◌}
use native.Mathlib.Numerals.{add-one}
use native.Mathlib.Omega.{arith}
use lib.ListN.{get_or, take, drop}
use lib.Seq.{drop-drop, length-take-le, get_or-take}
use Rattle.parse.specs.Choice.{if}
use Rattle.class.specs.Class.{paper, is_hex}
use Rattle.parse.specs.Run.{span}
use Rattle.parse.proofs.Runs.{span_le}
use Rattle.compare.specs.Order.{order_of}
use Rattle.decode.specs.declared.reference.Record.{Record}
use Rattle.decode.specs.Entry.{entry_of}
use Rattle.decode.specs.Record.{record_of, decoded}
use Rattle.decode.proofs.Entry.{entry_inside}
use Rattle.decode.proofs.Records.{name_len, head_len, peel_len, Peel, View, is_bad_lem, plain, peeled, view}
use Rattle.iter.specs.Entries.{entries_of}
use Rattle.iter.specs.Items.{Item, items, name_in, name_of}
use Rattle.checks.specs.Passes.{all_good, IsAscending}
use Rattle.merge.proofs.GoodItems.{OfGood, Each, each_good}
use Rattle.merge.proofs.Entries.{Digits, Sound, AllSound, Ascends}
use Rattle.std.specs.declared.cmp.Ordering.TheVariants.{Less}
use Rattle.std.specs.declared.option.Option.TheVariants.{None, Some}
use Rattle.std.specs.declared.result.Result.{Result}
use Rattle.std.specs.declared.result.Result.TheVariants.{Err, Ok}
use Rattle.decode.specs.declared.reference.Fault.{Fault}

-- no name is smaller than the empty one
pub none_smaller : (last : List ℕ) → order_of last [] ≡ Less → ⊥
none_smaller [] h = let z : ◌≡◌ {A = ℕ} 0 1 = cc in omega arith
none_smaller (b ∷ last) h = let z : ◌≡◌ {A = ℕ} 0 1 = cc in omega arith

-- ---- ids that were read are digits

passes_at : (p : ℕ → Bool) (s : List ℕ) (i : ℕ) → i < span p s → p (get_or s i 0) ≡ true
passes_at p [] i l = absurd (omega arith)
passes_at p (b ∷ s) zero l = go (p b) refl l
  where
    go : (t : Bool) → p b ≡ t → 0 < if t (suc (span p s)) 0 → p b ≡ true
    go true e l = e
    go false e l = absurd (omega arith)
passes_at p (b ∷ s) (suc i) l = go (p b) l (passes_at p s i)
  where
    go : (t : Bool) → suc i < if t (suc (span p s)) 0 → (i < span p s → p (get_or s i 0) ≡ true) → p (get_or s i 0) ≡ true
    go true l rest = rest (omega arith)
    go false l rest = absurd (omega arith)

pub front_digits : (n : ℕ) (s : List ℕ) → n ≤ span is_hex s → Digits n (take n s)
front_digits n s h =
    record {
      long = length-take-le n s (omega (arith, span_le is_hex s));
      hex = λ i l. rw (get_or-take n s i 0 l) (passes_at is_hex s i (omega arith));
    }

-- ---- one record

module _ (n : ℕ) (s : List ℕ) where
  peeled_digits : Peel paper n (drop (head_len paper n s) s) → Digits n (take n (drop (suc (head_len paper n s)) s))
  peeled_digits p =
      let k = head_len paper n s in
      let d : drop 1 (drop k s) ≡ drop (suc k) s = rw (add-one k) at (drop-drop 1 k s) in
      rw (← d) (front_digits n (drop 1 (drop k s)) p.id)

  record_sound : (r : Record) → record_of paper n s ≡ Ok r → Sound n (entry_of n s r)
  record_sound r e = go (view paper n s)
    where
      go : View paper n s → Sound n (entry_of n s r)
      go (is_bad_lem f w q) = absurd (let z : ◌≡◌ {A = ℕ} 0 1 = cc in omega arith)
      go (plain h c q) =
          let w : r ≡ record { name_len = name_len paper n s; peeled = None; size = head_len paper n s } = cc in
          rw w (record { id = front_digits n s h.id; name = rw (add-one n) h.name; peeled = tt })
      go (peeled h c p q) =
          let w : r ≡ record { name_len = name_len paper n s; peeled = Some (suc (head_len paper n s)); size = head_len paper n s + peel_len paper n (drop (head_len paper n s) s) } = cc in
          rw w (record { id = front_digits n s h.id; name = rw (add-one n) h.name; peeled = peeled_digits p })

-- ---- all items of some bytes

module _ (n : ℕ) where
  abbrev SoundRecord : Record → List ℕ → Type 0
  SoundRecord r bytes = Sound n (entry_of n bytes r)

  all_sound : (l : List Item) → Each SoundRecord l → AllSound n (entries_of n l)
  all_sound [] e = tt
  all_sound (i ∷ l) e = go i.what e.0 (all_sound l e.1)
    where
      go : (w : Result Record Fault) → OfGood SoundRecord w i.bytes → AllSound n (entries_of n l) → AllSound n (decoded w (λ r. entry_of n i.bytes r ∷ entries_of n l) (λ f. entries_of n l))
      go (Ok r) first rest = (first, rest)
      go (Err f) first rest = rest

  pub olds_sound : (s : List ℕ) → all_good (items paper n s) ≡ true → AllSound n (entries_of n (items paper n s))
  olds_sound s g =
      all_sound (items paper n s) (each_good n SoundRecord (λ t r e. rw (entry_inside paper n t r e) (record_sound n t r e)) s g)

  -- an error has no name, and a name that is greater than another is not empty
  pub olds_ascend : (last : List ℕ) (l : List Item) → IsAscending n last l → Ascends last (entries_of n l)
  olds_ascend last [] u = tt
  olds_ascend last (i ∷ l) u = go i.what u.0 (olds_ascend (name_of n i) l u.1)
    where
      go : (w : Result Record Fault) → order_of last (name_in n w i.bytes) ≡ Less → Ascends (name_in n w i.bytes) (entries_of n l)
          → Ascends last (decoded w (λ r. entry_of n i.bytes r ∷ entries_of n l) (λ f. entries_of n l))
      go (Ok r) up rest = (up, rest)
      go (Err f) up rest = absurd (none_smaller last up)
