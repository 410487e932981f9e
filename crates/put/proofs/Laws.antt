-- The laws of texts put into bytes: one behind another they are one text, and what is put keeps the length.
use mathlib.Core.Path.{◌≡◌, refl, sym, ap, ◌∙◌}
use mathlib.Core.Bool.{Bool, true, false}
use mathlib.Core.List.{List, [], ◌∷◌, ◌++◌}
use Prim.Native.Nat.{ℕ, zero, suc, ◌+◌, ◌-◌, ◌≤◌, ◌<◌, min}
use native.Mathlib.Nat.{add-zero, zero-add, suc-add, add-suc, sub-zero, zero-sub, suc-sub-suc}
use native.Mathlib.Numerals.{add-one}
use native.Mathlib.Omega.{arith}
use lib.Dec.{leb}
use lib.ListN.{length, drop, set, take-append-drop, length-append}
use lib.Seq.{take-nil, drop-nil, take_all, set_split}
use borrow.Author.Tests.{leb-true, leb-false}
use Rattle.put.specs.Put.{over, place_behind}

-- ---- the bytes one by one

over_none : {A : Type 0} (at : ℕ) (w : List A) → over [] at w ≡ []
over_none at w = rw (take-nil, zero-sub, drop-nil)

over_past : {A : Type 0} (x : A) (d : List A) (at : ℕ) (w : List A) → over (x ∷ d) (suc at) w ≡ x ∷ over d at w
over_past x d at w = rw (suc-sub-suc (length d) at, suc-add at (length w))

over_here : {A : Type 0} (x : A) (d : List A) (b : A) (w : List A) → over (x ∷ d) 0 (b ∷ w) ≡ b ∷ over d 0 w
over_here x d b w = rw (sub-zero (suc (length d)), sub-zero (length d), zero-add (suc (length w)), zero-add (length w))

-- ---- no text, no room, the length

pub over_nil : {A : Type 0} (d : List A) (at : ℕ) → over d at [] ≡ d
over_nil d at = rw (take-nil, add-zero) (take-append-drop at d)

pub over_beyond : {A : Type 0} (d : List A) (at : ℕ) (w : List A) → length d ≤ at → over d at w ≡ d
over_beyond [] at w h = over_none at w
over_beyond (x ∷ d) zero w h = absurd (omega arith)
over_beyond (x ∷ d) (suc at) w h = over_past x d at w ∙ ap (λ l. x ∷ l) (over_beyond d at w (omega arith))

pub length_over : {A : Type 0} (d : List A) (at : ℕ) (w : List A) → length (over d at w) ≡ length d
length_over [] at w = ap length (over_none at w)
length_over (x ∷ d) zero [] = ap length (over_nil (x ∷ d) 0)
length_over (x ∷ d) zero (b ∷ w) = ap length (over_here x d b w) ∙ ap suc (length_over d 0 w)
length_over (x ∷ d) (suc at) w = ap length (over_past x d at w) ∙ ap suc (length_over d at w)

-- ---- a text behind another

over_next : {A : Type 0} (d : List A) (at : ℕ) (s t : List A) → over (over d at s) (at + length s) t ≡ over d at (s ++ t)
over_next [] at s t =
    ap (λ l. over l (at + length s) t) (over_none at s) ∙ over_none (at + length s) t ∙ sym (over_none at (s ++ t))
over_next (x ∷ d) zero [] t = ap (λ l. over l (0 + 0) t) (over_nil (x ∷ d) 0) ∙ ap (λ k. over (x ∷ d) k t) (add-zero 0)
over_next (x ∷ d) zero (b ∷ s) t =
    ap (λ l. over l (0 + suc (length s)) t) (over_here x d b s)
    ∙ ap (λ k. over (b ∷ over d 0 s) k t) (add-suc 0 (length s))
    ∙ over_past b (over d 0 s) (0 + length s) t
    ∙ ap (λ l. b ∷ l) (over_next d 0 s t)
    ∙ sym (over_here x d b (s ++ t))
over_next (x ∷ d) (suc at) s t =
    ap (λ l. over l (suc at + length s) t) (over_past x d at s)
    ∙ ap (λ k. over (x ∷ over d at s) k t) (suc-add at (length s))
    ∙ over_past x (over d at s) (at + length s) t
    ∙ ap (λ l. x ∷ l) (over_next d at s t)
    ∙ sym (over_past x d at (s ++ t))

pub over_twice : {A : Type 0} (d : List A) (at k : ℕ) (s t : List A) → k ≡ at + length s → over (over d at s) k t ≡ over d at (s ++ t)
over_twice d at k s t e = ap (λ n. over (over d at s) n t) e ∙ over_next d at s t

-- ---- a text that fits

pub over_fits : {A : Type 0} (d w : List A) → length w ≤ length d → over d 0 w ≡ w ++ drop (length w) d
over_fits d w h = rw (sub-zero, zero-add, take_all (length d) w h)

pub over_byte : {A : Type 0} (d : List A) (at : ℕ) (b : A) → at < length d → set d at b ≡ over d at (b ∷ [])
over_byte d at b h = set_split d at b h ∙ rw (take_all (length d - at) (b ∷ []) (omega arith), add-one)

-- ---- the place behind a text

pub place_behind_lem : (at n : ℕ) → place_behind at n ≡ min (at + n) 18446744073709551615
unfolding place_behind
place_behind_lem at n = refl

-- where it is not the sum, both are beyond the end
over_behind : (d : List ℕ) (at n : ℕ) (w : List ℕ) → length d ≤ 18446744073709551615 → over d (place_behind at n) w ≡ over d (at + n) w
over_behind d at n w h = go (leb (at + n) 18446744073709551615) refl
  where
    go : (t : Bool) → leb (at + n) 18446744073709551615 ≡ t → over d (place_behind at n) w ≡ over d (at + n) w
    go true e =
        let z : place_behind at n ≡ at + n = omega (arith, place_behind_lem at n, leb-true (at + n) 18446744073709551615 e) in
        ap (λ k. over d k w) z
    go false e =
        let far = leb-false (at + n) 18446744073709551615 e in
        over_beyond d (place_behind at n) w (omega (arith, place_behind_lem at n, far)) ∙ sym (over_beyond d (at + n) w (omega (arith, far)))

-- the text w is put at a place of d: the bytes then, and the place behind it
abbrev pub Puts : List ℕ → ℕ → List ℕ → List ℕ → ℕ → Type 0
Puts d at w d' r = (d' ≡ over d at w) × (r ≡ place_behind at (length w))

pub puts_then : (d d₁ d₂ : List ℕ) (at k m : ℕ) (s t : List ℕ) → length d ≤ 18446744073709551615 → Puts d at s d₁ k → Puts d₁ k t d₂ m
    → Puts d at (s ++ t) d₂ m
puts_then d d₁ d₂ at k m s t h p q = (
  q.0
      ∙ (λ i. over (p.0 i) (p.1 i) t)
      ∙ over_behind (over d at s) at (length s) t (omega (arith, length_over d at s))
      ∙ over_next d at s t,
  omega (arith, p.1, q.1, place_behind_lem at (length s), place_behind_lem k (length t), place_behind_lem at (length (s ++ t)), length-append s t),
)
