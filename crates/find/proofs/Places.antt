-- The place that the search tells lies inside the body.
use mathlib.Core.Path.{◌≡◌}
use mathlib.Core.Bool.{false}
use mathlib.Core.List.{List}
use Prim.Native.Nat.{ℕ, ◌≤◌}
use lib.ListN.{length}
use Rattle.class.specs.Class.{Classes}
use Rattle.probe.proofs.Starts.{start_inside}
use Rattle.search.specs.Search.{halve, order_at, failure_at, placed, search_of, missed}
use Rattle.find.specs.PrefixStart.{place_of}
use Rattle.std.specs.declared.result.Result.{Result}
use Rattle.std.specs.declared.result.Result.TheVariants.{Err, Ok}
use Rattle.search.specs.declared.Miss.{Miss}

module _ (byte : Classes) (n : ℕ) (s wanted : List ℕ) where
  placed_inside : (r : Result ℕ Miss) → place_of (placed byte n s wanted r) ≤ length s
  placed_inside (Ok m) = start_inside s m
  placed_inside (Err why) = start_inside s why.place

  pub search_inside : {r : (Result ℕ Miss)} → search_of byte n s wanted ≡ r → place_of r ≤ length s
  unfolding search_of
  search_inside e =
      rw e at (placed_inside (halve (order_at byte n s wanted) (failure_at byte n s wanted) (length s) 0 (length s) false))
