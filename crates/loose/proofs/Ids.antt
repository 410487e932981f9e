-- Whether a full-length id stands at the front, by what reading n digits gives and by the byte behind them.
use mathlib.Core.Path.{◌≡◌, refl}
use mathlib.Core.Bool.{Bool, true, false, not}
use mathlib.Core.List.{List, [], ◌∷◌}
use Prim.Native.Nat.{ℕ, zero, suc, ◌+◌, ◌≤◌, ◌<◌}
use native.Mathlib.Omega.{arith}
use borrow.Author.Tests.{eq-eqb, ne_eqb}
use lib.ListN.{length, get_or, drop}
use Rattle.parse.specs.Choice.{if}
use Rattle.class.specs.Class.{Classes}
use Rattle.parse.specs.Run.{span}
use Rattle.id.specs.Id.{id_at}
use Rattle.parse.proofs.Runs.{span_end, span_stop, span_go}
use Rattle.id.proofs.Ids.{IdView, id, no_id, id_view}
use Rattle.loose.specs.Loose.{full_id}
use Rattle.std.specs.declared.option.Option.TheVariants.{None, Some}

-- a run of n bytes and more is those and the run behind them
span_behind : (p : ℕ → Bool) (n : ℕ) (s : List ℕ) → n ≤ span p s → span p s ≡ n + span p (drop n s)
span_behind p zero s h = omega arith
span_behind p (suc n) [] h = absurd (omega arith)
span_behind p (suc n) (b ∷ s) h = go (p b) h (span_behind p n s)
  where
    go : (c : Bool) → suc n ≤ if c (suc (span p s)) 0 → (n ≤ span p s → span p s ≡ n + span p (drop n s))
        → if c (suc (span p s)) 0 ≡ suc n + span p (drop n s)
    go true k ih = omega (arith, ih (omega arith))
    go false k ih = absurd (omega arith)

module _ (byte : Classes) (n : ℕ) (s : List ℕ) where
  pub too_few : id_at byte n s 0 ≡ None → full_id byte n s ≡ false
  too_few h = go (id_view byte n s 0)
    where
      go : IdView byte n s 0 → full_id byte n s ≡ false
      go (id some e) = cc
      go (no_id few e) = ne_eqb (span byte.hex s) n (λ k. omega arith)

  module _ {end : ℕ} (digits : id_at byte n s 0 ≡ Some end) where
    -- n digits were read, and so many stand at the front
    passed : (end ≡ n) × (span byte.hex s ≡ end + span byte.hex (drop end s))
    passed = go (id_view byte n s 0)
      where
        go : IdView byte n s 0 → (end ≡ n) × (span byte.hex s ≡ end + span byte.hex (drop end s))
        go (id some e) =
            let place : end ≡ 0 + n = cc in
            let same : end ≡ n = omega arith in
            (same, rw same (span_behind byte.hex n s some))
        go (no_id few e) = absurd (let z : ◌≡◌ {A = ℕ} 0 1 = cc in omega arith)

    pub nothing_behind : length s ≤ end → full_id byte n s ≡ true
    nothing_behind h = eq-eqb (span byte.hex s) n (omega (arith, passed, span_end byte.hex s end h))

    pub by_next : end < length s → full_id byte n s ≡ not (byte.hex (get_or s end 0))
    by_next h = go (byte.hex (get_or s end 0)) refl
      where
        go : (t : Bool) → byte.hex (get_or s end 0) ≡ t → full_id byte n s ≡ not t
        go true e = ne_eqb (span byte.hex s) n (λ k. omega (arith, passed, span_go byte.hex s end h e))
        go false e = eq-eqb (span byte.hex s) n (omega (arith, passed, span_stop byte.hex s end h e))
