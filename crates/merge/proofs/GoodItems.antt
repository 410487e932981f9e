-- What holds of every good record holds of every item of bytes whose items are all good.
use mathlib.Core.Path.{◌≡◌, refl}
use mathlib.Core.Bool.{true, and-eq-true_iff}
use mathlib.Core.List.{List, [], ◌∷◌}
use Prim.Native.Nat.{ℕ, zero, suc, ◌-◌, ◌≤◌}
use native.Mathlib.Omega.{arith}
use lib.ListN.{length, take, drop, length-drop}
use Rattle.class.specs.Class.{paper}
use Rattle.parse.specs.Line.{line_len}
use Rattle.decode.specs.declared.reference.Record.{Record}
use Rattle.decode.specs.Record.{record_of, decoded}
use Rattle.iter.specs.Items.{Item, size_of, items}
use Rattle.checks.specs.Passes.{is_good, all_good}
use Rattle.iter.proofs.Items.{size_some, items_nil, items_step}
use Rattle.std.specs.declared.result.Result.{Result}
use Rattle.std.specs.declared.result.Result.TheVariants.{Err, Ok}
use Rattle.decode.specs.declared.reference.Fault.{Fault}

-- what was read is a record, and P holds of it and its bytes
abbrev pub OfGood : (Record → List ℕ → Type 0) → Result Record Fault → List ℕ → Type 0
OfGood P (Ok r) bytes = P r bytes
OfGood P (Err f) bytes = ⊥

abbrev pub Each : (Record → List ℕ → Type 0) → List Item → Type 0
Each P [] = Unit {0}
Each P (i ∷ l) = OfGood P i.what i.bytes × Each P l

module _ (n : ℕ) (P : Record → List ℕ → Type 0) (holds : (s : List ℕ) (r : Record) → record_of paper n s ≡ Ok r → P r (take r.size s)) where
  first_good : (s : List ℕ) → is_good (record_of paper n s) ≡ true → OfGood P (record_of paper n s) (take (size_of paper n s) s)
  unfolding size_of
  first_good s g = go (record_of paper n s) refl g
    where
      go : (w : Result Record Fault) → record_of paper n s ≡ w → is_good w ≡ true → OfGood P w (take (decoded w (λ r. r.size) (λ f. line_len s)) s)
      go (Ok r) e g = holds s r e
      go (Err f) e g = absurd (let z : ◌≡◌ {A = ℕ} 0 1 = cc in omega arith)

  -- by a bound of the bytes' length: the items behind the first are those of fewer bytes
  each_by : (f : ℕ) (s : List ℕ) → length s ≤ f → all_good (items paper n s) ≡ true → Each P (items paper n s)
  each_by zero [] h g = rw (items_nil paper n) tt
  each_by (suc f) [] h g = rw (items_nil paper n) tt
  each_by zero (b ∷ s) h g = absurd (omega arith)
  each_by (suc f) (b ∷ s) h g =
      let k = size_of paper n (b ∷ s) in
      let l : length (drop k (b ∷ s)) ≡ suc (length s) - k = length-drop k (b ∷ s) in
      let step = items_step paper n (b ∷ s) (omega arith) in
      let (first, rest) = (and-eq-true_iff (is_good (record_of paper n (b ∷ s))) (all_good (items paper n (drop k (b ∷ s))))).0 (rw step at g) in
      rw step (first_good (b ∷ s) first, each_by f (drop k (b ∷ s)) (omega (arith, size_some paper n (b ∷ s) (omega arith))) rest)

  pub each_good : (s : List ℕ) → all_good (items paper n s) ≡ true → Each P (items paper n s)
  each_good s g = each_by (length s) s (omega arith) g
