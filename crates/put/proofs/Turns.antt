-- What a turn of each loop does, and what is left at its end.
use mathlib.Core.Path.{◌≡◌, refl, sym, ap, ◌∙◌}
use mathlib.Core.Bool.{Bool, true, false}
use mathlib.Core.List.{List, [], ◌∷◌, ◌++◌, append-nil}
use Prim.Native.Nat.{ℕ, suc, ◌+◌, ◌-◌, ◌/◌, ◌%◌, ◌≤◌, ◌<◌, min}
use native.Mathlib.Numerals.{add-one}
use native.Mathlib.Omega.{arith}
use lib.Dec.{leb}
use lib.ListN.{length, get_or, take, drop, set, length-drop, drop_of_length-le}
use lib.Seq.{drop-cons, drop-drop}
use borrow.Author.Tests.{leb-true, leb-false}
use Rattle.parse.specs.Run.{span}
use Rattle.parse.proofs.Runs.{span_le}
use Rattle.put.specs.Put.{over, place_behind}
use Rattle.hex_digits.specs.Hex.{hex_digit, hex_text}
use Rattle.put.specs.Cr.{not_cr, without_cr}
use Rattle.put.proofs.Crs.{without_piece}
use Rattle.put.proofs.Laws.{over_nil, over_beyond, over_byte, over_twice, Puts, puts_then}

-- ---- bytes

module _ (d s : List ℕ) (at i : ℕ) where
  pub copy_turn : i < length s → at + i < length d
      → over (set d (at + i) (get_or s i 0)) (at + (i + 1)) (drop (i + 1) s) ≡ over d (at + i) (drop i s)
  copy_turn h k =
      ap (λ l. over l (at + (i + 1)) (drop (i + 1) s)) (over_byte d (at + i) (get_or s i 0) k)
      ∙ over_twice d (at + i) (at + (i + 1)) (get_or s i 0 ∷ []) (drop (i + 1) s) (omega arith)
      ∙ ap (over d (at + i)) (ap (λ n. get_or s i 0 ∷ drop n s) (add-one i) ∙ sym (drop-cons s i 0 h))

  -- all is copied, or there is no more room
  pub copy_end : min (length s) (length d - at) ≤ i → over d (at + i) (drop i s) ≡ d
  copy_end h = go (leb (length s) i) refl
    where
      go : (t : Bool) → leb (length s) i ≡ t → over d (at + i) (drop i s) ≡ d
      go true e = ap (over d (at + i)) (drop_of_length-le s (leb-true (length s) i e)) ∙ over_nil d (at + i)
      go false e = over_beyond d (at + i) (drop i s) (omega (arith, leb-false (length s) i e))

-- ---- hex: two digits for a byte, and what follows them makes the whole

module _ (d d₁ d₂ s : List ℕ) (to i a b : ℕ) where
  pub hex_turn : i < length s → a ≡ hex_digit (get_or s i 0 / 16) → b ≡ hex_digit (get_or s i 0 % 16)
      → d₁ ≡ over d to (a ∷ [])
      → d₂ ≡ over d₁ (to + 1) (b ∷ [])
      → over d₂ (to + 2) (hex_text (drop (i + 1) s)) ≡ over d to (hex_text (drop i s))
  hex_turn h ea eb p q =
      let two : d₂ ≡ over d to (a ∷ b ∷ []) =
      q ∙ ap (λ l. over l (to + 1) (b ∷ [])) p ∙ over_twice d to (to + 1) (a ∷ []) (b ∷ []) (omega arith) in
      ap (λ l. over l (to + 2) (hex_text (drop (i + 1) s))) two
      ∙ over_twice d to (to + 2) (a ∷ b ∷ []) (hex_text (drop (i + 1) s)) (omega arith)
      ∙ ap (over d to) (rw (ea, eb, drop-cons s i 0 h, add-one i))

pub hex_end : (d s : List ℕ) (to i : ℕ) → length s ≤ i → over d to (hex_text (drop i s)) ≡ d
hex_end d s to i h = ap (λ l. over d to (hex_text l)) (drop_of_length-le s h) ∙ over_nil d to

-- ---- lf: a piece up to the next CR or the end

module _ (s : List ℕ) (from end : ℕ) (h : from ≤ length s) (e : end ≡ from + span not_cr (drop from s)) where
  pub piece_fits : end ≤ length s
  piece_fits = omega (arith, span_le not_cr (drop from s), length-drop from s)

  abbrev piece : List ℕ
  piece = take (end - from) (drop from s)

  piece_first : without_cr (drop from s) ≡ piece ++ without_cr (drop (end + 1) s)
  piece_first =
      let n : span not_cr (drop from s) ≡ end - from = omega arith in
      let k : from + suc (end - from) ≡ end + 1 = omega arith in
      without_piece (drop from s)
      ∙ ap (λ m. take m (drop from s) ++ without_cr (drop (suc m) (drop from s))) n
      ∙ ap (λ l. piece ++ without_cr l) (drop-drop (suc (end - from)) from s ∙ ap (λ m. drop m s) k)

  module _ (d d' : List ℕ) (to to' : ℕ) (room : length d ≤ 18446744073709551615) (put : Puts d to piece d' to') where
    -- what follows the CR, put behind the piece, makes the whole
    pub piece_turn : Puts d to (without_cr (drop from s)) (over d' to' (without_cr (drop (end + 1) s))) (place_behind to' (length (without_cr (drop (end + 1) s))))
    piece_turn = rw piece_first (puts_then d d' _ to to' _ piece (without_cr (drop (end + 1) s)) room put (refl, refl))

    -- nothing follows the last piece
    pub piece_last : length s ≤ end → Puts d to (without_cr (drop from s)) d' to'
    piece_last k =
        let none : without_cr (drop (end + 1) s) ≡ [] = ap without_cr (drop_of_length-le s {i = end + 1} (omega arith)) in
        let all : without_cr (drop from s) ≡ piece = piece_first ∙ ap (λ l. piece ++ l) none ∙ append-nil piece in
        rw all put
