-- The search over the places of a body.
use Rattle.std.specs.Prelude.{Bool, true, false, ◌||◌, List, [], ℕ, zero, suc, ◌+◌, ◌-◌, ◌/◌, ltb, length, take, drop, Option, Some, None, Result, Ok, Err}
use Rattle.class.specs.Class.{Classes}
use Rattle.compare.specs.Order.{order_of}
use Rattle.probe.specs.Shape.{shape_of}
use Rattle.probe.specs.RecordStart.{record_start}
use Rattle.search.specs.declared.Probed.{Probed}
use Rattle.std.specs.declared.cmp.Ordering.{Ordering}
use Rattle.std.specs.declared.cmp.Ordering.TheVariants.{Equal, Greater, Less}
use Rattle.search.specs.declared.Miss.{Miss}

-- ---- what a probe reads

-- the name that stands behind n bytes and one more; "A shape that fails counts as an empty name"
abbrev pub name_by_shape : ℕ → List ℕ → Option ℕ → List ℕ
name_by_shape n s (Some k) = take k (drop (n + 1) s)
name_by_shape n s None = []

abbrev pub is_failure : Option ℕ → Bool
is_failure (Some k) = false
is_failure None = true

unfoldable pub probed_of : Classes → ℕ → List ℕ → List ℕ → Probed
probed_of byte n s wanted =
    record {
      order = order_of (name_by_shape n s (shape_of byte n s)) wanted;
      failed = is_failure (shape_of byte n s);
    }

-- ---- halving

-- "probe low + (high - low) / 2"
abbrev pub middle : ℕ → ℕ → ℕ
middle low high = low + (high - low) / 2

-- no probe hit: where the search ended, and whether a shape failed
abbrev pub missed : ℕ → Bool → Result ℕ Miss
missed place failed = Err (record { place = place; failed = failed })

-- what the probes say is given: at each place how its name stands to the wanted one, and whether its shape failed.
-- "Smaller name: low becomes probe + 1. Greater: high becomes probe." The gap shrinks at each turn, so as many turns as it is long are enough
module _ (order : ℕ → Ordering) (failure : ℕ → Bool) where
  unfoldable pub halve : ℕ → ℕ → ℕ → Bool → Result ℕ Miss
  halve zero low high failed = missed low failed
  halve (suc turns) low high failed =
      let m = middle low high in
      elim (ltb low high) [
        | false ↦ missed low failed
        | true ↦ elim (order m) [
          | Less ↦ halve turns (m + 1) high (failed || failure m)
          | Equal ↦ Ok m
          | Greater ↦ halve turns low m (failed || failure m)
        ]
      ]

-- how many probes that takes
module _ (order : ℕ → Ordering) where
  unfoldable pub probe_count : ℕ → ℕ → ℕ → ℕ
  probe_count zero low high = 0
  probe_count (suc turns) low high =
      let m = middle low high in
      elim (ltb low high) [
        | false ↦ 0
        | true ↦ elim (order m) [
          | Less ↦ suc (probe_count turns (m + 1) high)
          | Equal ↦ 1
          | Greater ↦ suc (probe_count turns low m)
        ]
      ]

-- ---- the search in a body

module _ (byte : Classes) (n : ℕ) (s wanted : List ℕ) where
  -- what a probe of a place says: of the record that it lies in
  abbrev pub probed_at : ℕ → Probed
  probed_at place = probed_of byte n (drop (record_start s place) s) wanted

  abbrev pub order_at : ℕ → Ordering
  order_at place = (probed_at place).order

  abbrev pub failure_at : ℕ → Bool
  failure_at place = (probed_at place).failed

  -- the place told is a record start
  abbrev pub placed : Result ℕ Miss → Result ℕ Miss
  placed (Ok m) = Ok (record_start s m)
  placed (Err miss) = missed (record_start s miss.place) miss.failed

  -- "low 0, high the length"
  unfoldable pub search_of : Result ℕ Miss
  search_of = placed (halve order_at failure_at (length s) 0 (length s) false)

  unfoldable pub probes_of : ℕ
  probes_of = probe_count order_at (length s) 0 (length s)
