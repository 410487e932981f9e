-- "In a checked file it lists exactly the records with the prefix, in order."
use mathlib.Core.Path.{◌≡◌, refl, sym, ap, ◌∙◌}
use mathlib.Core.Bool.{Bool, true, false, and-eq-true_iff}
use mathlib.Core.List.{List, [], ◌∷◌, ◌++◌, append_assoc, append-nil}
use mathlib.Core.Option.{none as no_line}
use Prim.Native.Nat.{ℕ, ◌+◌, ◌<◌}
use native.Mathlib.Nat.{add-zero}
use native.Mathlib.Omega.{arith}
use lib.Dec.{ltb}
use lib.ListN.{get_or, length, drop, length-append, get_or-eq_default}
use borrow.Author.Tests.{ltb-true, ltb-false, ne_eqb}
use Rattle.class.specs.Class.{paper, is_hex}
use Rattle.parse.specs.Choice.{if}
use Rattle.compare.specs.Order.{order_of}
use Rattle.compare.specs.Prefix.{begins}
use Rattle.decode.specs.Record.{record_of}
use Rattle.header.proofs.Headers.{no_hash}
use Rattle.iter.specs.Items.{Item, items, bytes_of, name_of}
use Rattle.checks.specs.Passes.{is_good, all_good, Passes}
use Rattle.iter.specs.Stands.{Stands}
use Rattle.start.specs.Start.{start_line, start_of, starts_at}
use Rattle.iter.proofs.Each.{each}
use Rattle.iter.proofs.Items.{items_step, tile}
use Rattle.handed.specs.Hands.{unless_other, up_to_other, all_of}
use Rattle.handed.proofs.Iterations.{hands_out}
use Rattle.search.specs.Search.{search_of}
use Rattle.find.specs.PrefixStart.{place_of, prefix_start_from, prefix_start_of}
use Rattle.find.specs.Present.{with_prefix, ListsExactly}
use Rattle.find.proofs.Checked.{Checked, checked}
use Rattle.find.proofs.Cut.{Smaller, Cut, here, none, cut}
use Rattle.find.proofs.Leading.{leading, leading_all, none_before, none_leading}
use Rattle.find.proofs.RecordLines.{first_hex}
use Rattle.find.proofs.Rest.{bytes_append, items_from, good_from, up_from}
use Rattle.std.specs.declared.cmp.Ordering.TheVariants.{Less}
use Rattle.std.specs.declared.result.Result.{Result}
use Rattle.std.specs.declared.result.Result.TheVariants.{Err, Ok}
use Rattle.decode.specs.declared.reference.Fault.{Fault}
use Rattle.decode.specs.declared.reference.Record.{Record}

-- ---- the start: records begin with hex digits, so the `#` rule does nothing

module _ (n : ℕ) (pos : 0 < n) (s : List ℕ) (good : all_good (items paper n s) ≡ true) where
  first_byte : get_or s 0 0 ≡ 35 → ⊥
  unfolding is_hex
  first_byte e = go (ltb 0 (length s)) refl
    where
      go : (t : Bool) → ltb 0 (length s) ≡ t → ⊥
      go false t = let z : get_or s 0 0 ≡ 0 = get_or-eq_default s 0 (ltb-false 0 (length s) t) in omega arith
      go true t =
          let first : is_good (record_of paper n s) ≡ true = ((and-eq-true_iff _ _).0 (rw (items_step paper n s (ltb-true 0 (length s) t)) at good)).0 in
          let hex : is_hex 35 ≡ true = rw e at (first_hex n pos s first) in
          let z : ◌≡◌ {A = ℕ} 0 1 = cc in
          omega arith

  starts_here : start_of paper s ≡ starts_at 0 1
  unfolding start_of start_line
  starts_here = rw (no_hash paper s first_byte, ne_eqb (get_or s 0 0) 35 first_byte)

from_place : (s : List ℕ) (place : ℕ) → start_of paper (drop place s) ≡ starts_at 0 1 → prefix_start_from paper s place ≡ Ok place
unfolding prefix_start_from
from_place s place e = rw (e, add-zero place)

-- ---- the steps

-- among records, those up to the first of another name are the leading ones
good_leads : (n : ℕ) (prefix : List ℕ) (l : List Item) → all_good l ≡ true → up_to_other n prefix l ≡ leading n prefix l
good_leads n prefix [] g = refl
good_leads n prefix (i ∷ l) g =
    let both = (and-eq-true_iff (is_good i.what) (all_good l)).0 g in
    go i.what both.0 (begins prefix (name_of n i)) (good_leads n prefix l both.1)
  where
    go : (w : Result Record Fault) → is_good w ≡ true → (b : Bool) → up_to_other n prefix l ≡ leading n prefix l
        → unless_other w b (i ∷ up_to_other n prefix l) ≡ if b (i ∷ leading n prefix l) []
    go (Ok r) h true ih = ap (λ (m : List Item). i ∷ m) ih
    go (Ok r) h false ih = refl
    go (Err f) h b ih = cc

-- from what is said by places to the items themselves
each_smaller : {n : ℕ} {s prefix : List ℕ} (before rest : List Item) → items paper n s ≡ before ++ rest → Smaller n s prefix (length (bytes_of before))
    → (x : List Item) (i : Item) (y : List Item) → before ≡ x ++ i ∷ y → order_of (name_of n i) prefix ≡ Less
each_smaller {n} {s} before rest e h x i y q =
    let p : items paper n s ≡ x ++ i ∷ (y ++ rest) = e ∙ rw q (append_assoc x (i ∷ y) rest) in
    let stands : Stands paper n s (length (bytes_of x)) i = record { before = x; after = y ++ rest; all = p; here = refl } in
    let len : length (bytes_of before) ≡ length (bytes_of x) + length (i.bytes ++ bytes_of y) = rw q (bytes_append x (i ∷ y)) in
    h (length (bytes_of x)) i stands
    (omega (arith, len, length-append i.bytes (bytes_of y), (each n s (length (bytes_of x)) i stands).forward))

module _ {n : ℕ} {s : List ℕ} (c : Checked n s) (prefix : List ℕ) where
  -- from a place on stand records only, and the leading ones are those of the whole body with the prefix
  record Listed (place : ℕ) : Type 0 where
    rest : all_good (items paper n (drop place s)) ≡ true
    leads : leading n prefix (items paper n (drop place s)) ≡ with_prefix n prefix (items paper n s)

  listed : {place : ℕ} → Cut n s prefix place → Listed place
  listed (here {it} x smaller h) =
      let lower : Smaller n s prefix (length (bytes_of x.before)) = rw x.here smaller in
      record {
        rest = good_from paper n s x c.good;
        leads =
            ap (leading n prefix) (items_from paper n s x) ∙ leading_all n prefix it x.after h (up_from paper n s x c.up)
            ∙ sym (none_before n prefix x.before (it ∷ x.after) (each_smaller x.before (it ∷ x.after) x.all lower))
            ∙ ap (with_prefix n prefix) (sym x.all);
      }
  listed (none z smaller) =
      let all = items paper n s in
      let lower : Smaller n s prefix (length (bytes_of all)) = rw (tile paper n s) smaller in
      let all-smaller = each_smaller all [] (sym (append-nil all)) lower in
      rw z
      (record {
        rest = c.good;
        leads = none_leading n prefix all all-smaller ∙ sym (none_before n prefix all [] all-smaller) ∙ ap (with_prefix n prefix) (append-nil all);
      })

pub lists_exactly : (n : ℕ) → 0 < n → (s : List ℕ) (count : ℕ) → Passes n (items paper n s) count → (prefix : List ℕ) → ListsExactly n s prefix
unfolding prefix_start_of
lists_exactly n pos s count passes prefix =
    let c : Checked n s = checked pos passes in
    let place = place_of (search_of paper n s prefix) in
    let l : Listed c prefix place = listed c prefix (cut c prefix) in
    record {
      place = place;
      start = from_place s place (starts_here n pos (drop place s) l.rest);
      all =
          λ turns h. (hands_out paper n prefix s place no_line).all turns h
          ∙ ap (all_of n (length s) place no_line) (good_leads n prefix (items paper n (drop place s)) l.rest ∙ l.leads);
    }
