-- The record start of every place of a record is the record's place; and where all items are records, that of the end is 0.
use mathlib.Core.Path.{◌≡◌, refl, sym, ap, ◌∙◌}
use mathlib.Core.Bool.{Bool, true, false}
use mathlib.Core.List.{List, [], ◌∷◌}
use Prim.Native.Nat.{ℕ, zero, suc, ◌+◌, ◌-◌, ◌≤◌, ◌<◌}
use native.Mathlib.Nat.{add-zero}
use native.Mathlib.Omega.{arith}
use lib.Dec.{ltb, eqb}
use lib.ListN.{get_or, length, drop, length-drop}
use lib.Seq.{drop-drop, get_or-drop, length-take-le}
use borrow.Author.Tests.{ltb-true, ltb-false}
use Rattle.parse.specs.Choice.{if}
use Rattle.class.specs.Class.{paper, is_hex}
use Rattle.parse.specs.Line.{line_len}
use Rattle.parse.proofs.Fronts.{at_drop, line_len_some}
use Rattle.decode.specs.Record.{record_of}
use Rattle.probe.specs.RecordStart.{line_start, record_start}
use Rattle.probe.proofs.Starts.{line_stop, line_back, start_here, start_before, start_at_end}
use Rattle.iter.specs.Items.{Item, size_of, items}
use Rattle.checks.specs.Passes.{is_good, all_good}
use Rattle.iter.specs.Stands.{Stands, EachItem}
use Rattle.iter.proofs.Items.{size_le}
use Rattle.iter.proofs.Each.{each}
use Rattle.find.proofs.ItemAt.{lies, stands_good}
use Rattle.find.proofs.RecordLines.{Lined, one, two, lined, first_hex}

-- ---- line starts

-- before the last byte of a line stands no line feed
no_feed : (t : List ℕ) (j : ℕ) → suc j < line_len t → get_or t j 0 ≡ 10 → ⊥
no_feed [] j h e = omega arith
no_feed (b ∷ t) zero h e = let z : 1 < line_len (10 ∷ t) = rw e at h in omega arith
no_feed (b ∷ t) (suc j) h e = go (eqb b 10) h (λ k. no_feed t j k e)
  where
    go : (v : Bool) → suc (suc j) < if v 1 (suc (line_len t)) → (suc j < line_len t → ⊥) → ⊥
    go true q ih = omega arith
    go false q ih = ih (omega arith)

module _ (s : List ℕ) (a : ℕ) where
  -- from where a line begins to its last byte
  line_in : line_start s a ≡ a → (j : ℕ) → j < line_len (drop a s) → line_start s (a + j) ≡ a
  line_in start zero h = rw (add-zero a) start
  line_in start (suc j) h =
      let z : a + suc j - 1 ≡ a + j = omega arith in
      let other : get_or s (a + suc j - 1) 0 ≡ 10 → ⊥ = λ e. no_feed (drop a s) j h (get_or-drop a s j 0 ∙ ap (λ (i : ℕ). get_or s i 0) (sym z) ∙ e) in
      line_back s (a + suc j) (omega arith) other ∙ ap (line_start s) z ∙ line_in start j (omega arith)

  -- behind k bytes that end with a line feed a line begins
  line_behind_lem : (k : ℕ) → 0 < k → get_or (drop a s) (k - 1) 0 ≡ 10 → line_start s (a + k) ≡ a + k
  line_behind_lem k some e =
      let z : a + (k - 1) ≡ a + k - 1 = omega arith in
      line_stop s (a + k) (omega arith) (ap (λ (i : ℕ). get_or s i 0) (sym z) ∙ sym (get_or-drop a s (k - 1) 0) ∙ e)

-- ---- the places of a record

module _ (n : ℕ) (pos : 0 < n) (s : List ℕ) {place : ℕ} {it : Item} (x : Stands paper n s place it) (good : is_good it.what ≡ true) where
  abbrev t : List ℕ
  t = drop place s

  here : EachItem n s place it
  here = each n s place it x

  size : length it.bytes ≡ size_of paper n t
  size = ap (λ (i : Item). length i.bytes) here.read ∙ length-take-le (size_of paper n t) t (size_le paper n t)

  read_good : is_good (record_of paper n t) ≡ true
  read_good = ap (λ (i : Item). is_good i.what) (sym here.read) ∙ good

  some : 0 < line_len t
  some = line_len_some t (omega (arith, here.forward, here.inside, length-drop place s))

  no_caret : get_or s place 0 ≡ 94 → ⊥
  unfolding is_hex
  no_caret e =
      let front : get_or t 0 0 ≡ 94 = get_or-drop place s 0 0 ∙ ap (λ (i : ℕ). get_or s i 0) (add-zero place) ∙ e in
      let hex : is_hex 94 ≡ true = rw front at (first_hex n pos t read_good) in
      let z : ◌≡◌ {A = ℕ} 0 1 = cc in
      omega arith

  in_first : (j : ℕ) → j < line_len t → record_start s (place + j) ≡ place
  in_first j h = start_here s (place + j) place (sym (line_in s place here.start j h)) (omega (arith, here.forward, here.inside)) no_caret

  -- the second line begins with `^`, so its record start is one line back
  in_second : get_or t (line_len t - 1) 0 ≡ 10 → get_or t (line_len t) 0 ≡ 94 → (j : ℕ) → j < line_len (drop (line_len t) t)
      → record_start s (place + line_len t + j) ≡ place
  in_second feed caret j h =
      let b = place + line_len t in
      let begins : line_start s b ≡ b = line_behind_lem s place (line_len t) some feed in
      let d : drop (line_len t) t ≡ drop b s = drop-drop (line_len t) place s in
      let z : b - 1 ≡ place + (line_len t - 1) = omega (arith, some) in
      start_before s (b + j) b (sym (line_in s b begins j (rw d at h))) (sym (get_or-drop place s (line_len t) 0) ∙ caret)
      ∙ ap (line_start s) z ∙ line_in s place here.start (line_len t - 1) (omega (arith, some))

  pub start_of : (p : ℕ) → place ≤ p → p < place + length it.bytes → record_start s p ≡ place
  start_of p from to = go (lined n t read_good) (ltb (p - place) (line_len t)) refl
    where
      first : p - place < line_len t → record_start s p ≡ place
      first h = let z : place + (p - place) ≡ p = omega arith in rw z at (in_first (p - place) h)

      go : Lined n t → (v : Bool) → ltb (p - place) (line_len t) ≡ v → record_start s p ≡ place
      go l true e = first (ltb-true (p - place) (line_len t) e)
      go (one k f) false e = absurd (omega (arith, size, ltb-false (p - place) (line_len t) e))
      go (two k f c g) false e =
          let behind = ltb-false (p - place) (line_len t) e in
          let j = p - place - line_len t in
          let z : place + line_len t + j ≡ p = omega arith in
          rw z at (in_second f c j (omega (arith, size)))

  -- behind a record a line begins, at the end of the body too
  line_after : line_start s (place + length it.bytes) ≡ place + length it.bytes
  line_after = rw size (go (lined n t read_good))
    where
      go : Lined n t → line_start s (place + size_of paper n t) ≡ place + size_of paper n t
      go (one k f) = rw k (line_behind_lem s place (line_len t) some f)
      go (two k f c g) =
          let b = place + line_len t in
          let m = line_len (drop (line_len t) t) in
          let caret : 0 < m = omega (arith, ap line_len (at_drop 94 (omega arith) (line_len t) t c)) in
          let d : drop (line_len t) t ≡ drop b s = drop-drop (line_len t) place s in
          let z : place + (line_len t + m) ≡ b + m = omega arith in
          rw (k, z) (line_behind_lem s b m caret (ap (λ (l : List ℕ). get_or l (m - 1) 0) (sym d) ∙ g))

-- ---- the end

pub end_start : (n : ℕ) → 0 < n → (s : List ℕ) → all_good (items paper n s) ≡ true → record_start s (length s) ≡ 0
end_start n pos s g = go (ltb 0 (length s)) refl
  where
    go : (v : Bool) → ltb 0 (length s) ≡ v → record_start s (length s) ≡ 0
    go false e = start_at_end s (length s) (line_start s (length s)) refl (omega (arith, ltb-false 0 (length s) e))
    go true e =
        let last = lies paper n s (length s - 1) (omega (arith, ltb-true 0 (length s) e)) in
        let x = last.stands in
        let z : last.place + length last.it.bytes ≡ length s = omega (arith, (each n s last.place last.it x).inside, last.to) in
        let w : line_start s (length s) ≡ length s = rw z at (line_after n pos s x (stands_good paper n s g x)) in
        start_at_end s (length s) (line_start s (length s)) refl (omega arith)
