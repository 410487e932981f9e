-- A lookup's hit is a record, or bad in its first id or in its `^` line: the rest of it was read by its shape, and the name equals a valid one.
use mathlib.Core.Path.{◌≡◌, refl, sym, ap, ◌∙◌}
use mathlib.Core.Bool.{Bool, true, false}
use mathlib.Core.List.{List}
use mathlib.Core.Logic.{◌⊎◌, inl, inr}
use Prim.Native.Nat.{ℕ, ◌+◌}
use native.Mathlib.Omega.{arith}
use lib.ListN.{length, take, drop}
use Rattle.parse.specs.Choice.{if}
use Rattle.class.specs.Class.{paper}
use Rattle.compare.proofs.Orders.{order_equal}
use Rattle.name.specs.Name.{valid_name}
use Rattle.name.proofs.Laws.{valid_some}
use Rattle.decode.specs.declared.reference.Fault.{Fault}
use Rattle.decode.specs.declared.reference.Fault.TheVariants.{Id, Space, LineEnd, Name, Peeled}
use Rattle.decode.specs.declared.reference.Record.{Record}
use Rattle.decode.specs.Record.{record_of}
use Rattle.decode.specs.Why.{Why, id, space, line_end_lem, name as name!, peeled}
use Rattle.decode.proofs.Why.{each_has_its_reason}
use Rattle.probe.specs.Shape.{shape_of}
use Rattle.probe.specs.RecordStart.{record_start}
use Rattle.probe.proofs.Shapes.{shape_len, Shaped, ShapeView, named, shapeless, shape_view}
use Rattle.search.specs.Search.{name_by_shape, probed_of, halve, order_at, failure_at, placed, search_of, missed}
use Rattle.search.proofs.Halving.{hit_equal}
use Rattle.find.specs.Lookup.{lookup_of}
use Rattle.find.specs.Hits.{HitOrMiss, number_of}
use Rattle.std.specs.declared.result.Result.{Result}
use Rattle.std.specs.declared.result.Result.TheVariants.{Err, Ok}
use Rattle.search.specs.declared.Miss.{Miss}

-- ---- the bytes t, of which the shape reads the wanted name

module _ (n : ℕ) (t name : List ℕ) (valid : valid_name paper name ≡ true) (shows : name_by_shape n t (shape_of paper n t) ≡ name) where
  -- what reading them comes to
  data Ends : Type 0 where
    good : (r : Record) → record_of paper n t ≡ Ok r → Ends
    bad_id_lem : record_of paper n t ≡ Err Id → Ends
    bad_peeled_lem : record_of paper n t ≡ Err Peeled → Ends

  -- a valid name is not empty, so the shape did not fail
  shaped : Shaped paper n t × (take (shape_len paper n t) (drop (n + 1) t) ≡ name)
  shaped = go (shape_view paper n t)
    where
      go : ShapeView paper n t → Shaped paper n t × (take (shape_len paper n t) (drop (n + 1) t) ≡ name)
      go (named l h e) = (h, ap (name_by_shape n t) (sym e) ∙ shows)
      go (shapeless h e) = absurd (omega (arith, valid_some paper name valid, ap (λ (x : List ℕ). length x) (sym shows ∙ ap (name_by_shape n t) e)))

  reads : Ends
  reads = go (record_of paper n t) refl
    where
      by : (f : Fault) → record_of paper n t ≡ Err f → Why paper n t f → Ends
      by Id e (id lacks) = bad_id_lem e
      by Space e (space i lacks) = absurd (lacks shaped.0.space)
      by LineEnd e (line_end_lem i b lacks) = absurd (lacks shaped.0.end)
      by Name e (name! i b l lacks) = absurd (lacks (ap (valid_name paper) shaped.1 ∙ valid))
      by Peeled e (peeled i b l v c lacks) = bad_peeled_lem e

      go : (w : Result Record Fault) → record_of paper n t ≡ w → Ends
      go (Ok r) e = good r e
      go (Err f) e = by f e ((each_has_its_reason paper n t f).only e)

-- ---- the lookup

module _ (n : ℕ) (s name : List ℕ) (valid : valid_name paper name ≡ true) where
  -- where the search hits, the shape reads the name
  shows_name : (place : ℕ) → search_of paper n s name ≡ Ok place → name_by_shape n (drop place s) (shape_of paper n (drop place s)) ≡ name
  unfolding search_of probed_of
  shows_name place e = go (halve (order_at paper n s name) (failure_at paper n s name) (length s) 0 (length s) false) refl e
    where
      go : (h : Result ℕ Miss) → halve (order_at paper n s name) (failure_at paper n s name) (length s) 0 (length s) false ≡ h → placed paper n s name h ≡ Ok place
          → name_by_shape n (drop place s) (shape_of paper n (drop place s)) ≡ name
      go (Ok m) q p =
          let z : record_start s m ≡ place = cc in
          let equal = hit_equal (order_at paper n s name) (failure_at paper n s name) (length s) 0 (length s) false (omega arith) m q in
          order_equal (name_by_shape n (drop place s) (shape_of paper n (drop place s))) name (rw z at equal)
      go (Err why) q p = absurd (let z : ◌≡◌ {A = ℕ} 0 1 = cc in omega arith)

  hit : (place : ℕ) → search_of paper n s name ≡ Ok place → (number_of n s name ≡ 0) ⊎ ((number_of n s name ≡ 41) ⊎ (number_of n s name ≡ 45))
  unfolding lookup_of
  hit place e = go (reads n (drop place s) name valid (shows_name place e))
    where
      go : Ends n (drop place s) name valid (shows_name place e) → (number_of n s name ≡ 0) ⊎ ((number_of n s name ≡ 41) ⊎ (number_of n s name ≡ 45))
      go (good r q) = inl (rw (valid, e, q))
      go (bad_id_lem q) = inr (inl (rw (valid, e, q)))
      go (bad_peeled_lem q) = inr (inr (rw (valid, e, q)))

  miss : (place : ℕ) (failed : Bool) → search_of paper n s name ≡ missed place failed → number_of n s name ≡ if failed 4 5
  unfolding lookup_of
  miss place true e = rw (valid, e)
  miss place false e = rw (valid, e)

pub hit_or_miss : HitOrMiss
hit_or_miss n s name valid = record { hit = hit n s name valid; miss = miss n s name valid }
