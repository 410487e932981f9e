-- One turn of a pass that checks: what the rest comes to after it. For any classes.
use mathlib.Core.Path.{◌≡◌, refl, sym, ◌∙◌, subst}
use mathlib.Core.Bool.{Bool, true, false}
use mathlib.Core.List.{List}
use Prim.Native.Nat.{ℕ, suc, ◌+◌, ◌≤◌}
use native.Mathlib.Omega.{arith}
use Prim.Native.Nat.{min}
use Rattle.std.proofs.Math.Nat.{min-eq_left, min-eq_right}
use lib.Dec.{ltb}
use borrow.Author.Tests.{ltb-true, ltb-false}
use Rattle.parse.specs.Choice.{if}
use lib.ListN.{length, take, drop, drop_of_length-le}
use Rattle.class.specs.Class.{Classes, paper}
use Rattle.compare.specs.Order.{smaller}
use Rattle.decode.specs.declared.reference.Record.{Record}
use Rattle.decode.specs.Record.{record_of}
use Rattle.checks.specs.declared.Refusal.{Refusal}
use Rattle.checks.specs.declared.Refusal.TheVariants.{BadHeader, BadRecord, Unsorted}
use Rattle.iter.specs.Items.{items}
use Rattle.checks.specs.Check.{judge, count_before, turn_by, turn_of}
use Rattle.iter.proofs.ItemRead.{Reads}
use Rattle.iter.proofs.Items.{items_nil}
use Rattle.iter.proofs.Turns.{HeadItem, head_bad, head_good}
use Rattle.std.specs.declared.option.Option.{Option}
use Rattle.std.specs.declared.option.Option.TheVariants.{None, Some}
use Rattle.std.specs.declared.result.Result.{Result}
use Rattle.std.specs.declared.result.Result.TheVariants.{Err, Ok}
use Rattle.decode.specs.declared.reference.Fault.{Fault}

-- a turn is taken at a place of a file, behind a record of the name last
pub record Spot : Type 0 where
  pub byte : Classes
  pub n : ℕ
  pub file : List ℕ
  pub place : ℕ
  pub last : List ℕ

-- one with the classes of the paper, of which the contracts speak
abbrev pub spot : ℕ → List ℕ → ℕ → List ℕ → Spot
spot n file place last = record { byte = paper; n = n; file = file; place = place; last = last }

module _ (s : Spot) where
  abbrev pub turn_at : Result (Option Record) Refusal
  turn_at = turn_of s.byte s.n s.file s.place s.last

  abbrev pub Read : Result Record Fault → Type 0
  Read w = Reads s.byte s.n s.file s.place w

  abbrev name_here : Record → List ℕ
  name_here r = take r.name_len (drop (s.n + 1) (drop s.place s.file))

  -- ---- what a turn tells

  -- a refusal is told with the turn's place, and no turn speaks of the header
  abbrev pub Stopped : Refusal → Type 0
  Stopped (BadHeader text) = ⊥
  Stopped (BadRecord place f) = (place ≡ s.place) × Read (Err f)
  Stopped (Unsorted place) = (place ≡ s.place) × (r : Record) × Read (Ok r) × (smaller s.last (name_here r) ≡ false)

  abbrev pub Turned : Result (Option Record) Refusal → Type 0
  Turned (Ok None) = length s.file ≤ s.place
  Turned (Ok (Some r)) = Read (Ok r) × (smaller s.last (name_here r) ≡ true)
  Turned (Err why) = Stopped why

  by_order : (r : Record) → Read (Ok r) → (b : Bool) → smaller s.last (name_here r) ≡ b → Turned (if b (Ok (Some r)) (Err (Unsorted s.place)))
  by_order r k true e = (k, e)
  by_order r k false e = (refl, r, k, e)

  by_reading : (w : Result Record Fault) → Read w → Turned (turn_by s.n s.last (drop s.place s.file) s.place w)
  by_reading (Ok r) k = by_order r k (smaller s.last (name_here r)) refl
  by_reading (Err f) k = (refl, k)

  by_place : (b : Bool) → ltb s.place (length s.file) ≡ b
      → Turned (if b (turn_by s.n s.last (drop s.place s.file) s.place (record_of s.byte s.n (drop s.place s.file))) (Ok None))
  by_place true e =
      by_reading (record_of s.byte s.n (drop s.place s.file))
      (record { inside = ltb-true s.place (length s.file) e; is = refl })
  by_place false e = ltb-false s.place (length s.file) e

  pub turned : (v w : Result (Option Record) Refusal) → v ≡ turn_at → v ≡ w → Turned w
  unfolding turn_of
  turned v w e f = subst Turned (sym e ∙ f) (by_place (ltb s.place (length s.file)) refl)

  -- ---- what the check comes to after it

  abbrev pub judged_after : ℕ → Result (Option Record) Refusal → Result ℕ Refusal
  judged_after count (Ok None) = Ok count
  judged_after count (Ok (Some r)) =
      judge s.n (s.place + r.size) (suc count) (name_here r) (items s.byte s.n (drop (s.place + r.size) s.file))
  judged_after count (Err why) = Err why

  module _ (r : Record) (k : Read (Ok r)) where
    head : HeadItem s.byte s.n s.file s.place (Ok r) r.size
    head = head_good s.byte s.n s.file s.place r k.is k.inside

  pub judged : (count : ℕ) (w : Result (Option Record) Refusal) → Turned w
      → judge s.n s.place count s.last (items s.byte s.n (drop s.place s.file)) ≡ judged_after count w
  judged count (Ok None) h = rw (drop_of_length-le s.file h, items_nil s.byte s.n)
  judged count (Ok (Some r)) (k, e) = let h = head r k in rw (h.all, h.is, h.name, h.long, e)
  judged count (Err (BadHeader text)) x = absurd x
  judged count (Err (BadRecord place f)) (here, k) =
      let h = head_bad s.byte s.n s.file s.place k.inside f k.is in rw (here, h.all, h.is)
  judged count (Err (Unsorted place)) (here, r, k, e) = let h = head r k in rw (here, h.all, h.is, h.name, h.long, e)

-- ---- how many records stood before a place

module _ (count place : ℕ) where
  -- the lesser of the two
  pub count_least : min count place ≡ count_before count place
  unfolding count_before
  count_least = go (ltb count place) refl
    where
      go : (b : Bool) → ltb count place ≡ b → min count place ≡ if b count place
      go true e = min-eq_left (omega (arith, ltb-true count place e))
      go false e = min-eq_right (omega (arith, ltb-false count place e))

  -- a count that is not greater is kept
  pub before_is : count ≤ place → count_before count place ≡ count
  before_is h = sym count_least ∙ min-eq_left h
