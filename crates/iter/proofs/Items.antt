-- The list of items unfolds one item at a time, each goes forward, and together they are all the bytes. For any classes.
use mathlib.Core.Path.{◌≡◌, refl}
use mathlib.Core.List.{List, [], ◌∷◌}
use Prim.Native.Nat.{ℕ, zero, suc, pred, ◌-◌, ◌≤◌, ◌<◌}
use native.Mathlib.Omega.{arith}
use lib.ListN.{length, drop, length-drop, take-append-drop}
use Rattle.class.specs.Class.{Classes}
use Rattle.parse.specs.Line.{line_len}
use Rattle.parse.proofs.Fronts.{line_len_le, line_len_some}
use Rattle.decode.specs.declared.reference.Record.{Record}
use Rattle.decode.specs.Record.{record_of, decoded}
use Rattle.decode.proofs.Records.{fits}
use Rattle.iter.specs.Items.{Item, size_of, item_of, items_behind, items, bytes_of}
use Rattle.std.specs.declared.result.Result.{Result}
use Rattle.std.specs.declared.result.Result.TheVariants.{Err, Ok}
use Rattle.decode.specs.declared.reference.Fault.{Fault}

module _ (byte : Classes) (n : ℕ) where
  pub size_good : (s : List ℕ) (r : Record) → record_of byte n s ≡ Ok r → size_of byte n s ≡ r.size
  unfolding size_of
  size_good s r e = rw e

  -- ---- sizes

  pub size_le : (s : List ℕ) → size_of byte n s ≤ length s
  unfolding size_of
  size_le s = go (record_of byte n s) refl
    where
      go : (w : Result Record Fault) → record_of byte n s ≡ w → decoded w (λ r. r.size) (λ f. line_len s) ≤ length s
      go (Ok r) e = (fits byte n s r e).inside
      go (Err f) e = line_len_le s

  pub size_some : (s : List ℕ) → 0 < length s → 1 ≤ size_of byte n s
  unfolding size_of
  size_some s h = go (record_of byte n s) refl
    where
      go : (w : Result Record Fault) → record_of byte n s ≡ w → 1 ≤ decoded w (λ r. r.size) (λ f. line_len s)
      go (Ok r) e = omega (arith, (fits byte n s r e).holds)
      go (Err f) e = line_len_some s h

  -- ---- unfolding

  skip : (k : ℕ) (s : List ℕ) → items_behind byte n k s ≡ items byte n (drop k s)
  unfolding items_behind items
  skip zero s = refl
  skip (suc k) [] = refl
  skip (suc k) (b ∷ s) = skip k s

  pub items_nil : items byte n [] ≡ []
  unfolding items_behind items
  items_nil = refl

  items_cons : (b : ℕ) (s : List ℕ) → items byte n (b ∷ s) ≡ item_of byte n (b ∷ s) ∷ items byte n (drop (size_of byte n (b ∷ s)) (b ∷ s))
  unfolding items_behind items
  items_cons b s = go (size_of byte n (b ∷ s)) (size_some (b ∷ s) (omega arith))
    where
      go : (k : ℕ) → 1 ≤ k → item_of byte n (b ∷ s) ∷ items_behind byte n (pred k) s ≡ item_of byte n (b ∷ s) ∷ items byte n (drop k (b ∷ s))
      go zero h = absurd (omega arith)
      go (suc k) h = rw (skip k s)

  pub items_step : (s : List ℕ) → 0 < length s → items byte n s ≡ item_of byte n s ∷ items byte n (drop (size_of byte n s) s)
  items_step [] h = absurd (omega arith)
  items_step (b ∷ s) h = items_cons b s

  pub some_item : (s : List ℕ) (i : Item) (l : List Item) → items byte n s ≡ i ∷ l → 0 < length s
  some_item [] i l e = absurd (let x = items_nil in let z : ◌≡◌ {A = ℕ} 0 1 = cc in omega arith)
  some_item (b ∷ s) i l e = omega arith

  -- ---- tiling

  tiles : (f : ℕ) (s : List ℕ) → length s ≤ f → bytes_of (items byte n s) ≡ s
  tiles zero [] h = rw items_nil
  tiles zero (b ∷ s) h = absurd (omega arith)
  tiles (suc f) [] h = rw items_nil
  tiles (suc f) (b ∷ s) h =
      let k = size_of byte n (b ∷ s) in
      let l : length (drop k (b ∷ s)) ≡ suc (length s) - k = length-drop k (b ∷ s) in
      rw (items_cons b s, tiles f (drop k (b ∷ s)) (omega (arith, size_some (b ∷ s) (omega arith))), take-append-drop)

  pub tile : (s : List ℕ) → bytes_of (items byte n s) ≡ s
  tile s = tiles (length s) s (omega arith)
