-- Where the search ends in a body that passes the check: behind the records of smaller names, or at 0 where there are no others.
use mathlib.Core.Path.{◌≡◌, refl, sym, ap, ◌∙◌}
use mathlib.Core.Bool.{Bool, true, false}
use mathlib.Core.List.{List}
use Prim.Native.Nat.{ℕ, ◌≤◌, ◌<◌}
use native.Mathlib.Omega.{arith}
use lib.Dec.{ltb}
use lib.ListN.{length}
use borrow.Author.Tests.{ltb-true, ltb-false}
use Rattle.class.specs.Class.{paper}
use Rattle.compare.specs.Order.{order_of}
use Rattle.compare.proofs.Orders.{order_equal}
use Rattle.probe.specs.RecordStart.{record_start}
use Rattle.iter.specs.Items.{Item, name_of}
use Rattle.iter.specs.Stands.{Stands}
use Rattle.search.specs.Search.{order_at, placed, search_of}
use Rattle.find.specs.PrefixStart.{place_of}
use Rattle.checks.proofs.Ascending.{Apart, same, first, second}
use Rattle.find.proofs.Checked.{Checked, two_records}
use Rattle.find.proofs.Outcome.{Outcome, found, parted}
use Rattle.find.proofs.RecordStarts.{end_start}
use Rattle.find.proofs.Searched.{halves}
use Rattle.find.proofs.Sides.{Side, side, own_side}
use Rattle.std.specs.declared.cmp.Ordering.TheVariants.{Equal, Greater, Less}
use Rattle.std.specs.declared.result.Result.{Result}
use Rattle.search.specs.declared.Miss.{Miss}

module _ (n : ℕ) (s wanted : List ℕ) where
  -- every record that begins before a place has a smaller name
  abbrev pub Smaller : ℕ → Type 0
  Smaller place = (b : ℕ) (x : Item) → Stands paper n s b x → b < place → order_of (name_of n x) wanted ≡ Less

  pub data Cut (place : ℕ) : Type 0 where
    here : {it : Item} → Stands paper n s place it → Smaller place → (order_of (name_of n it) wanted ≡ Less → ⊥) → Cut place
    none : place ≡ 0 → Smaller (length s) → Cut place

module _ {n : ℕ} {s : List ℕ} (c : Checked n s) (wanted : List ℕ) where
  -- behind the smaller ones stands the wanted name
  cut_hit : (m : ℕ) → m < length s → order_at paper n s wanted m ≡ Equal → Cut n s wanted (record_start s m)
  cut_hit m l e = here x.stands smaller (λ z. let w : ◌≡◌ {A = ℕ} 0 1 = cc x.says in omega arith)
    where
      x : Side c wanted m
      x = side c wanted m l

      is : name_of n x.it ≡ wanted
      is = order_equal (name_of n x.it) wanted (sym x.says ∙ e)

      smaller : Smaller n s wanted (record_start s m)
      smaller b i y h = go (two_records c y x.stands)
        where
          go : Apart n b i (record_start s m) x.it → order_of (name_of n i) wanted ≡ Less
          go (same z q) = absurd (omega arith)
          go (first z q) = rw is at q
          go (second z q) = absurd (omega arith)

  -- behind the smaller ones stands a greater name, or nothing
  module _ (low : ℕ) (l : low ≤ length s) (below : (p : ℕ) → p < low → order_at paper n s wanted p ≡ Less)
      (above : (p : ℕ) → low ≤ p → p < length s → order_at paper n s wanted p ≡ Greater)
    where
      smaller : (place : ℕ) → place ≤ low → Smaller n s wanted place
      smaller place h b i y k = sym (own_side c wanted y).1 ∙ below b (omega arith)

      cut_miss : Cut n s wanted (record_start s low)
      cut_miss = go (ltb low (length s)) refl
        where
          go : (t : Bool) → ltb low (length s) ≡ t → Cut n s wanted (record_start s low)
          go true t =
              let h = ltb-true low (length s) t in
              let x = side c wanted low h in
              here x.stands (smaller (record_start s low) x.from) (λ z. let w : ◌≡◌ {A = ℕ} 0 1 = cc (x.says, above low (omega arith) h) in omega arith)
          go false t =
              let e : low ≡ length s = omega (arith, ltb-false low (length s) t) in
              none (ap (record_start s) e ∙ end_start n c.digits s c.good) (smaller (length s) (omega arith))

  pub cut : Cut n s wanted (place_of (search_of paper n s wanted))
  unfolding search_of
  cut = go _ (halves c wanted)
    where
      go : (r : Result ℕ Miss) → Outcome (order_at paper n s wanted) (length s) r → Cut n s wanted (place_of (placed paper n s wanted r))
      go r (found m l e) = cut_hit m l e
      go r (parted low l below above) = cut_miss low l below above
