-- Line starts and record starts, by what stands before a place.
use mathlib.Core.Path.{◌≡◌, refl, sym, ap, ◌∙◌}
use mathlib.Core.Bool.{Bool, true, false, not, cond}
use mathlib.Core.List.{List, [], ◌∷◌, reverse}
use Prim.Native.Nat.{ℕ, zero, suc, ◌+◌, ◌-◌, ◌≤◌, ◌<◌, min}
use native.Mathlib.Omega.{arith}
use native.Mathlib.Nat.{add-zero, le-suc_iff}
use mathlib.Core.Logic.{inl, inr}
use lib.Dec.{ltb, eqb}
use lib.ListN.{get_or, length, take, drop, get_or-eq_default, length-reverse}
use lib.Seq.{get_or-take, take-take, take-suc, take_all, length-take-le}
use Rattle.block.specs.Among.{among}
use Rattle.block.proofs.Members.{none_among}
use Rattle.std.specs.List.{position_or_len}
use Rattle.std.proofs.lemmas.List.{reverse-append, drop-take}
use Rattle.std.specs.declared.option.Option.{Option}
use borrow.Author.Tests.{eq-eqb, ne_eqb, eqb-true, eqb-false, ltb-true, ltb-false}
use Rattle.std.specs.declared.option.Option.TheVariants.{Some, None}
use Rattle.word.specs.Low.{last_low_at}
use Rattle.word.proofs.Lows.{last_low_run}
use Rattle.parse.specs.Choice.{if}
use Rattle.probe.specs.RecordStart.{line_start, record_start}

abbrev pub feed : ℕ → Bool
feed b = eqb b 10

module _ (s : List ℕ) where
  pub line_first : (i : ℕ) → i ≤ 0 → line_start s i ≡ 0
  line_first zero h = refl
  line_first (suc i) h = absurd (omega arith)

  -- right behind a line feed, and not
  pub line_stop : (i : ℕ) → 0 < i → get_or s (i - 1) 0 ≡ 10 → line_start s i ≡ i
  line_stop zero h e = absurd (omega arith)
  line_stop (suc p) h e = let q : suc p - 1 ≡ p = omega arith in rw (eq-eqb (get_or s p 0) 10 (rw q at e))

  pub line_back : (i : ℕ) → 0 < i → (get_or s (i - 1) 0 ≡ 10 → ⊥) → line_start s i ≡ line_start s (i - 1)
  line_back zero h e = absurd (omega arith)
  line_back (suc p) h e = let q : suc p - 1 ≡ p = omega arith in rw (q, ne_eqb (get_or s p 0) 10 (rw q at e))

  -- over bytes without any
  pub line_skip : (i k : ℕ) → ((j : ℕ) → j < k → get_or s (i + j) 0 ≡ 10 → ⊥) → line_start s (i + k) ≡ line_start s i
  line_skip i zero none = ap (line_start s) (add-zero i)
  line_skip i (suc k) none =
      let q : i + suc k ≡ suc (i + k) = omega arith in
      rw (q, ne_eqb (get_or s (i + k) 0) 10 (none k (omega arith))) (line_skip i k (λ j h. none j (omega arith)))

  -- a look at the eight bytes before a place goes back over those behind the last low one: line feeds are low
  pub look_back : (i : ℕ) {n : ℕ} → 8 ≤ i → last_low_at s (i - 8) ≡ Some n → (n ≤ 8) × (line_start s i ≡ line_start s (i - n))
  look_back i {n} h e =
      let (left, within, low) = last_low_run s (i - 8) e in
      let whole : i - n + n ≡ i = omega arith in
      (within, ap (line_start s) (sym whole) ∙ line_skip (i - n) n (none within low))
    where
      none : n ≤ 8 → ((k : ℕ) → k < 8 → 8 ≤ k + n → 14 ≤ get_or s (i - 8 + k) 0) → (j : ℕ) → j < n → get_or s (i - n + j) 0 ≡ 10 → ⊥
      none m low j l q =
          let k = 8 - n + j in
          let same : get_or s (i - 8 + k) 0 ≡ get_or s (i - n + j) 0 = ap (λ (x : ℕ). get_or s x 0) (omega arith) in
          omega (arith, same, q, low k (omega arith) (omega arith))

  -- in the first bytes, as far as the place
  pub line_front : (k i : ℕ) → i ≤ k → line_start (take k s) i ≡ line_start s i
  line_front k zero h = refl
  line_front k (suc p) h = let same : get_or (take k s) p 0 ≡ get_or s p 0 = get_or-take k s p 0 (omega arith) in rw same (ap (if (eqb (get_or s p 0) 10) (suc p)) (line_front k p (omega arith)))

  -- how far back from a place the first LF stands tells where its line begins
  back_found : (i : ℕ) → i ≤ length s → (position_or_len feed (reverse (take i s)) < i → line_start s i ≡ i - position_or_len feed (reverse (take i s)))
      × (i ≤ position_or_len feed (reverse (take i s)) → line_start s i ≡ 0)
  back_found zero h = (λ l. absurd (omega arith), λ l. refl)
  back_found (suc p) h =
      let turned : reverse (take (suc p) s) ≡ get_or s p 0 ∷ reverse (take p s) =
      ap reverse (take-suc s p 0 h) ∙ reverse-append (take p s) (get_or s p 0 ∷ []) in
      rw turned (go (eqb (get_or s p 0) 10) (back_found p (omega arith)))
    where
      k : ℕ
      k = position_or_len feed (reverse (take p s))

      go : (c : Bool) → (k < p → line_start s p ≡ p - k) × (p ≤ k → line_start s p ≡ 0)
          → (cond (not c) (1 + k) 0 < suc p → if c (suc p) (line_start s p) ≡ suc p - cond (not c) (1 + k) 0) × (suc p ≤ cond (not c) (1 + k) 0 → if c (suc p) (line_start s p) ≡ 0)
      go true x = (λ l. omega arith, λ l. absurd (omega arith))
      go false x = (λ l. omega (arith, x.0 (omega arith)), λ l. x.1 (omega arith))

  pub line_le : (i : ℕ) → line_start s i ≤ i
  line_le zero = omega arith
  line_le (suc p) = go (eqb (get_or s p 0) 10) (line_le p)
    where
      go : (t : Bool) → line_start s p ≤ p → if t (suc p) (line_start s p) ≤ suc p
      go true h = omega arith
      go false h = omega arith

  -- beyond the end counts as the end
  pub line_beyond : (i : ℕ) → length s ≤ i → line_start s i ≡ line_start s (length s)
  line_beyond zero h = let z : 0 ≡ length s = omega arith in ap (line_start s) z
  line_beyond (suc p) h =
      elim (le-suc_iff.0 h) [
        | inl l ↦
            let none : get_or s p 0 ≡ 0 = get_or-eq_default s 0 l in
            rw none (line_beyond p l)
        | inr e ↦ ap (line_start s) (sym e)
      ]

  pub line_min : (i : ℕ) → line_start s (min i (length s)) ≡ line_start s i
  line_min i = go (ltb i (length s)) refl
    where
      go : (t : Bool) → ltb i (length s) ≡ t → line_start s (min i (length s)) ≡ line_start s i
      go true e = let l = ltb-true i (length s) e in ap (line_start s) (omega arith)
      go false e = let l = ltb-false i (length s) e in ap (line_start s) (omega arith) ∙ sym (line_beyond i l)

  pub line_inside : (i : ℕ) → line_start s i ≤ length s
  line_inside zero = omega arith
  line_inside (suc p) = go (eqb (get_or s p 0) 10) refl (line_inside p)
    where
      go : (t : Bool) → eqb (get_or s p 0) 10 ≡ t → line_start s p ≤ length s → if t (suc p) (line_start s p) ≤ length s
      go true q h = inside (ltb p (length s)) refl
        where
          inside : (v : Bool) → ltb p (length s) ≡ v → suc p ≤ length s
          inside true w = omega (arith, ltb-true)
          inside false w =
              let none : get_or s p 0 ≡ 0 = get_or-eq_default s 0 (ltb-false p (length s) w) in
              absurd (omega (arith, eqb-true (get_or s p 0) 10 q))
      go false q h = h

  -- ---- the record start from the line start

  module _ (place start : ℕ) (e : start ≡ line_start s place) where
    pub start_at_end : length s ≤ start → record_start s place ≡ 0
    unfolding record_start
    start_at_end h = rw (← e, get_or-eq_default s 0 h) (go (eqb start (length s)) refl)
      where
        go : (t : Bool) → eqb start (length s) ≡ t → if t 0 start ≡ 0
        go true q = refl
        go false q = absurd (eqb-false start (length s) q (omega (arith, line_le place, line_inside place)))

    pub start_here : start < length s → (get_or s start 0 ≡ 94 → ⊥) → record_start s place ≡ start
    unfolding record_start
    start_here h k = rw (← e, ne_eqb (get_or s start 0) 94 k, ne_eqb start (length s) (λ q. omega arith))

    pub start_before : get_or s start 0 ≡ 94 → record_start s place ≡ line_start s (start - 1)
    unfolding record_start
    start_before k = rw (← e, k)

pub start_inside : (s : List ℕ) (place : ℕ) → record_start s place ≤ length s
unfolding record_start
start_inside s place = go (eqb (get_or s (line_start s place) 0) 94) (eqb (line_start s place) (length s))
  where
    go : (t v : Bool) → if t (line_start s (line_start s place - 1)) (if v 0 (line_start s place)) ≤ length s
    go true v = line_inside s (line_start s place - 1)
    go false true = omega arith
    go false false = line_inside s place

module _ (s : List ℕ) where
  -- the first bytes as far as a place
  pub front_start : {i : ℕ} → i ≤ length s → line_start (take i s) (length (take i s)) ≡ line_start s i
  front_start {i} h = ap (line_start (take i s)) (length-take-le i s h) ∙ line_front s i i (omega arith)

  -- the first bytes, split at k: both parts are bytes of the whole
  pub front_split : {rest front back : List ℕ} (k : ℕ) → k ≤ length rest → rest ≡ take (length rest) s → front ≡ take k rest → back ≡ drop k rest
      → (front ≡ take k s) × (back ≡ take (length rest - k) (drop k s))
  front_split {rest} k h r f b =
      let whole : length rest ≡ k + (length rest - k) = omega arith in
      (f ∙ ap (take k) r ∙ take-take k (length rest) s h, b ∙ ap (drop k) (r ∙ ap (λ (n : ℕ). take n s) whole) ∙ drop-take k (length rest - k) s)

  -- no LF among the n bytes from k on
  pub line_clear : (k n : ℕ) → k + n ≤ length s → among 10 (take n (drop k s)) ≡ false → line_start s k ≡ line_start s (k + n)
  line_clear k n h none = sym (line_skip s k n (λ j l. eqb-false _ _ (none_among 10 s k n j none l (omega arith))))

-- what std's search from the end tells: where the last LF stands, or that there is none
module _ (s : List ℕ) {r : Option ℕ} (told : r ≡ cond (ltb (position_or_len feed (reverse s)) (length (reverse s))) (Some (position_or_len feed (reverse s))) None) where
  all_of : (position_or_len feed (reverse s) < length s → line_start s (length s) ≡ length s - position_or_len feed (reverse s))
      × (length s ≤ position_or_len feed (reverse s) → line_start s (length s) ≡ 0)
  all_of = rw (take_all (length s) s (omega arith)) at (back_found s (length s) (omega arith))

  pub feed_last : {n : ℕ} → r ≡ Some n → length s - n ≡ line_start s (length s)
  feed_last {n} e = go (ltb (position_or_len feed (reverse s)) (length (reverse s))) refl (sym told ∙ e)
    where
      go : (t : Bool) → ltb (position_or_len feed (reverse s)) (length (reverse s)) ≡ t → cond t (Some (position_or_len feed (reverse s))) None ≡ Some n
          → length s - n ≡ line_start s (length s)
      go true l q =
          let same : position_or_len feed (reverse s) ≡ n = cc in
          omega (arith, all_of.0 (omega (arith, ltb-true _ _ l, length-reverse s)))
      go false l q = absurd (let z : ◌≡◌ {A = ℕ} 0 1 = cc in omega arith)

  pub feed_none : r ≡ None → 0 ≡ line_start s (length s)
  feed_none e = go (ltb (position_or_len feed (reverse s)) (length (reverse s))) refl (sym told ∙ e)
    where
      go : (t : Bool) → ltb (position_or_len feed (reverse s)) (length (reverse s)) ≡ t → cond t (Some (position_or_len feed (reverse s))) None ≡ None
          → 0 ≡ line_start s (length s)
      go true l q = absurd (let z : ◌≡◌ {A = ℕ} 0 1 = cc in omega arith)
      go false l q = omega (arith, all_of.1 (omega (arith, ltb-false _ _ l, length-reverse s)))
