-- A search for the first byte that stops, by a test of which only its answers are known.
use mathlib.Core.Path.{◌≡◌, sym, ap, ◌∙◌}
use mathlib.Core.Bool.{Bool, true, false, not}
use mathlib.Core.List.{List}
use Prim.Native.Nat.{ℕ, ◌+◌, ◌≤◌, ◌<◌}
use native.Mathlib.Omega.{arith}
use lib.ListN.{length, get_or, drop}
use Rattle.std.specs.declared.option.Option.TheVariants.{Some}
use Rattle.word.specs.Low.{first_low_at}
use Rattle.parse.specs.Run.{span, FirstStop}
use Rattle.parse.proofs.Runs.{span_end, span_stop, span_go, look_skip}

module _ (answers : ℕ → Bool → Type 0) (s : List ℕ) where
  -- that no byte stops before a place: what stands before the first stop from there on stands behind that many bytes
  abbrev pub Passed : ℕ → Type 0
  Passed i =
      (stops : ℕ → Bool) → ((b : ℕ) (t : Bool) → b < 256 → answers b t → t ≡ stops b) → ((b : ℕ) → 14 ≤ b → stops b ≡ false)
      → i + span (λ b. not (stops b)) (drop i s) ≡ span (λ b. not (stops b)) s

  pub passed_none : Passed 0
  passed_none stops a low = omega arith

  -- a look at eight bytes passes over those before the first low one
  pub passed_look : (i : ℕ) {n : ℕ} → Passed i → first_low_at s i ≡ Some n → Passed (i + n)
  passed_look i h e stops a low = sym (look_skip (λ b. not (stops b)) (λ b l. ap not (low b l)) s i e) ∙ h stops a low

  pub passed_byte : (k : ℕ) → Passed k → k < length s → get_or s k 0 < 256 → answers (get_or s k 0) false → Passed (k + 1)
  passed_byte k h l fits r stops a low = sym (span_go (λ b. not (stops b)) s k l (ap not (sym (a (get_or s k 0) false fits r)))) ∙ h stops a low

  pub stop_here : (k : ℕ) → Passed k → k < length s → get_or s k 0 < 256 → answers (get_or s k 0) true → FirstStop answers s k
  stop_here k h l fits r stops a low =
      omega (arith, h stops a low, span_stop (λ b. not (stops b)) s k l (ap not (sym (a (get_or s k 0) true fits r))))

  pub stop_end : (k : ℕ) → Passed k → k ≡ length s → FirstStop answers s (length s)
  stop_end k h e stops a low = omega (arith, h stops a low, span_end (λ b. not (stops b)) s k (omega arith))
