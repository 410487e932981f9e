-- What a probe says in a body that passes the check: how the name of the record that the place lies in stands to the wanted one.
-- So what probes say ascends from place to place.
use mathlib.Core.Path.{◌≡◌, sym, ap, ◌∙◌}
use mathlib.Core.Bool.{false}
use mathlib.Core.List.{List}
use Prim.Native.Nat.{ℕ, ◌+◌, ◌≤◌, ◌<◌}
use native.Mathlib.Omega.{arith}
use lib.ListN.{length, drop}
use Rattle.class.specs.Class.{paper}
use Rattle.compare.specs.Order.{order_of}
use Rattle.compare.proofs.Orders.{less_trans, less_flip, greater_flip}
use Rattle.probe.specs.RecordStart.{record_start}
use Rattle.iter.specs.Items.{Item, item_of, name_of}
use Rattle.iter.specs.Stands.{Stands}
use Rattle.iter.proofs.Each.{each}
use Rattle.search.specs.declared.Probed.{Probed}
use Rattle.search.specs.Search.{probed_at, order_at, failure_at}
use Rattle.checks.proofs.Ascending.{Apart, same, first, second}
use Rattle.find.proofs.Checked.{Checked, good_at, two_records}
use Rattle.find.proofs.GoodShape.{good_probed}
use Rattle.find.proofs.ItemAt.{lies}
use Rattle.find.proofs.Outcome.{Ascends}
use Rattle.find.proofs.RecordStarts.{start_of}
use Rattle.std.specs.declared.cmp.Ordering.TheVariants.{Greater, Less}

module _ {n : ℕ} {s : List ℕ} (c : Checked n s) (wanted : List ℕ) where
  module _ {place : ℕ} {it : Item} (x : Stands paper n s place it) (p : ℕ) (from : place ≤ p) (to : p < place + length it.bytes) where
    start_is : record_start s p ≡ place
    start_is = start_of n c.digits s x (good_at c x) p from to

    probed : probed_at paper n s wanted p ≡ record { order = order_of (name_of n it) wanted; failed = false }
    probed =
        let e : it ≡ item_of paper n (drop place s) = (each n s place it x).read in
        rw (start_is, e) (good_probed n (drop place s) wanted (rw e at (good_at c x)))

  -- a place, the record that it lies in, and what a probe says there
  pub record Side (p : ℕ) : Type 0 where
    pub it : Item
    pub stands : Stands paper n s (record_start s p) it
    pub from : record_start s p ≤ p
    pub to : p < record_start s p + length it.bytes
    pub says : order_at paper n s wanted p ≡ order_of (name_of n it) wanted
    pub reads : failure_at paper n s wanted p ≡ false

  pub side : (p : ℕ) → p < length s → Side p
  side p h =
      let l = lies paper n s p h in
      let e : record_start s p ≡ l.place = start_is l.stands p l.from l.to in
      let says = probed l.stands p l.from l.to in
      record {
        it = l.it;
        stands = rw e l.stands;
        from = omega (arith, l.from);
        to = omega (arith, l.to);
        says = ap (λ (q : Probed). q.order) says;
        reads = ap (λ (q : Probed). q.failed) says;
      }

  -- a record's own place
  pub own_side : {place : ℕ} {it : Item} → Stands paper n s place it → (place < length s) × (order_at paper n s wanted place ≡ order_of (name_of n it) wanted)
  own_side {place} {it} x =
      let h = each n s place it x in
      (omega (arith, h.forward, h.inside), ap (λ (q : Probed). q.order) (probed x place (omega arith) (omega (arith, h.forward))))

  -- ---- from place to place

  module _ (p q : ℕ) (le : p ≤ q) (inside : q < length s) where
    left : Side p
    left = side p (omega arith)

    right : Side q
    right = side q inside

    -- both places lie in one record, or the name at the second is greater
    data Rise : Type 0 where
      level : order_at paper n s wanted p ≡ order_at paper n s wanted q → Rise
      higher : order_of (name_of n left.it) (name_of n right.it) ≡ Less → Rise

    rise : Rise
    rise = go (two_records c left.stands right.stands)
      where
        go : Apart n (record_start s p) left.it (record_start s q) right.it → Rise
        go (same a e) = level (left.says ∙ ap (λ (x : Item). order_of (name_of n x) wanted) e ∙ sym right.says)
        go (first a e) = higher e
        go (second a e) = absurd (omega (arith, left.from, right.to))

    down : order_at paper n s wanted q ≡ Less → order_at paper n s wanted p ≡ Less
    down h = go rise
      where
        go : Rise → order_at paper n s wanted p ≡ Less
        go (level e) = e ∙ h
        go (higher e) = left.says ∙ less_trans (name_of n left.it) (name_of n right.it) wanted e (sym right.says ∙ h)

    up : order_at paper n s wanted p ≡ Greater → order_at paper n s wanted q ≡ Greater
    up h = go rise
      where
        go : Rise → order_at paper n s wanted q ≡ Greater
        go (level e) = sym e ∙ h
        go (higher e) =
            let v = name_of n left.it in
            let w = name_of n right.it in
            right.says ∙ less_flip wanted w (less_trans wanted v w (greater_flip v wanted (sym left.says ∙ h)) e)

  pub ascends : Ascends (order_at paper n s wanted) (failure_at paper n s wanted) (length s)
  ascends = record { down = down; up = up; reads = λ p h. (side p h).reads }
