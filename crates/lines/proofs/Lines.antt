-- Lines put piece by piece, and their lengths.
use mathlib.Core.Path.{◌≡◌, ap, ◌∙◌}
use mathlib.Core.List.{List, [], ◌∷◌, ◌++◌}
use Prim.Native.Nat.{ℕ, ◌+◌, ◌≤◌}
use native.Mathlib.Omega.{arith}
use lib.ListN.{length, length-append}
use Rattle.put.proofs.Laws.{length_over, Puts, puts_then}
use Rattle.lines.specs.Lines.{record_line, peeled_line}

-- ---- each piece put where the one before it ends

module _ (d d₁ d₂ : List ℕ) (at k₁ k₂ : ℕ) (room : length d ≤ 18446744073709551615) where
  pub three_put : (d₃ : List ℕ) (k₃ : ℕ) (s t u : List ℕ) → Puts d at s d₁ k₁ → Puts d₁ k₁ t d₂ k₂ → Puts d₂ k₂ u d₃ k₃
      → Puts d at (s ++ (t ++ u)) d₃ k₃
  three_put d₃ k₃ s t u p q r =
      let room₁ : length d₁ ≤ 18446744073709551615 = omega (arith, room, ap length p.0 ∙ length_over d at s) in
      puts_then d d₁ d₃ at k₁ k₃ s (t ++ u) room p (puts_then d₁ d₂ d₃ k₁ k₂ k₃ t u room₁ q r)

  pub four_put : (d₃ d₄ : List ℕ) (k₃ k₄ : ℕ) (s t u v : List ℕ)
      → Puts d at s d₁ k₁ → Puts d₁ k₁ t d₂ k₂ → Puts d₂ k₂ u d₃ k₃ → Puts d₃ k₃ v d₄ k₄
      → Puts d at (s ++ (t ++ (u ++ v))) d₄ k₄
  four_put d₃ d₄ k₃ k₄ s t u v p q r x =
      let room₂ : length d₂ ≤ 18446744073709551615 =
      omega (arith, room, ap length p.0 ∙ length_over d at s, ap length q.0 ∙ length_over d₁ k₁ t) in
      three_put d₄ k₄ s t (u ++ v) p q (puts_then d₂ d₃ d₄ k₂ k₃ k₄ u v room₂ r x)

-- ---- lengths: "A record takes name plus 42 bytes (kind 1) or 66 (kind 2), and 42 or 66 more with a peeled line."

pub length_record : (id name : List ℕ) → length (record_line id name) ≡ length name + (length id + 2)
length_record id name = omega (arith, length-append id (32 ∷ (name ++ 10 ∷ [])), length-append name (10 ∷ []))

pub length_peeled : (id : List ℕ) → length (peeled_line id) ≡ length id + 2
length_peeled id = omega (arith, length-append id (10 ∷ []))
