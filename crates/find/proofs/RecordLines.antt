-- The lines of a good record: one or two, each ended by a line feed, the second begun by `^`, the first by a hex digit.
use mathlib.Core.Path.{◌≡◌, refl, sym, ap, ◌∙◌}
use mathlib.Core.Bool.{Bool, true, false}
use mathlib.Core.List.{List, [], ◌∷◌}
use Prim.Native.Nat.{ℕ, suc, ◌+◌, ◌-◌, ◌<◌}
use native.Mathlib.Omega.{arith}
use lib.ListN.{get_or, drop}
use lib.Seq.{drop-drop, get_or-drop}
use Rattle.parse.specs.Choice.{if}
use Rattle.class.specs.Class.{paper, is_hex}
use Rattle.parse.specs.Run.{span}
use Rattle.parse.specs.Line.{eol, line_len}
use Rattle.parse.proofs.Fronts.{Eol, none, lf, crlf, eol_view, at_drop}
use Rattle.decode.specs.declared.reference.Fault.{Fault}
use Rattle.decode.specs.Record.{record_of}
use Rattle.decode.proofs.Records.{name_len, after_name, head_len, Head, peel_len, Peel, View, is_bad_lem, plain, peeled, view}
use Rattle.decode.proofs.Locality.{head_line, peel_line_lem}
use Rattle.iter.specs.Items.{size_of}
use Rattle.checks.specs.Passes.{is_good}
use Rattle.iter.proofs.Items.{size_good}
use Rattle.std.specs.declared.result.Result.TheVariants.{Err}

-- ---- line ends

eol_feed : (t : List ℕ) → 0 < eol t → get_or t (eol t - 1) 0 ≡ 10
eol_feed t p = go (eol_view t)
  where
    go : Eol t → get_or t (eol t - 1) 0 ≡ 10
    go (none e) = absurd (omega arith)
    go (lf h e) = rw e h
    go (crlf h i e) = rw e i

-- the line end behind k bytes
feed_behind : (k : ℕ) (t : List ℕ) → 0 < eol (drop k t) → get_or t (k + eol (drop k t) - 1) 0 ≡ 10
feed_behind k t p =
    let z : k + eol (drop k t) - 1 ≡ k + (eol (drop k t) - 1) = omega arith in
    ap (λ (i : ℕ). get_or t i 0) z ∙ sym (get_or-drop k t (eol (drop k t) - 1) 0) ∙ eol_feed (drop k t) p

front_passes : (p : ℕ → Bool) (t : List ℕ) → 0 < span p t → p (get_or t 0 0) ≡ true
front_passes p [] h = absurd (omega arith)
front_passes p (b ∷ t) h = go (p b) refl h
  where
    go : (v : Bool) → p b ≡ v → 0 < if v (suc (span p t)) 0 → p b ≡ true
    go true e q = e
    go false e q = absurd (omega arith)

module _ (n : ℕ) (t : List ℕ) where
  head_feed : Head paper n t → get_or t (head_len paper n t - 1) 0 ≡ 10
  unfolding head_len
  head_feed h =
      let k = suc n + name_len paper n t in
      let d : after_name paper n t ≡ drop k t = drop-drop (name_len paper n t) (suc n) t in
      rw d (feed_behind k t (rw d at h.end))

  peel_feed : Peel paper n t → get_or t (peel_len paper n t - 1) 0 ≡ 10
  unfolding peel_len
  peel_feed h = feed_behind (suc n) t h.end

  not_bad : {f : Fault} → is_good (record_of paper n t) ≡ true → record_of paper n t ≡ Err f → ⊥
  not_bad g e = let q : false ≡ true = rw e at g in let z : ◌≡◌ {A = ℕ} 0 1 = cc in omega arith

-- ---- a record's lines

module _ (n : ℕ) where
  pub data Lined (t : List ℕ) : Type 0 where
    one : size_of paper n t ≡ line_len t → get_or t (line_len t - 1) 0 ≡ 10 → Lined t
    two : size_of paper n t ≡ line_len t + line_len (drop (line_len t) t) → get_or t (line_len t - 1) 0 ≡ 10 → get_or t (line_len t) 0 ≡ 94
        → get_or (drop (line_len t) t) (line_len (drop (line_len t) t) - 1) 0 ≡ 10 → Lined t

  pub lined : (t : List ℕ) → is_good (record_of paper n t) ≡ true → Lined t
  lined t g = go (view paper n t)
    where
      go : View paper n t → Lined t
      go (is_bad_lem f w e) = absurd (not_bad n t g e)
      go (plain h c e) =
          let l : head_len paper n t ≡ line_len t = head_line n t h in
          one (size_good paper n t _ e ∙ l) (rw l at (head_feed n t h))
      go (peeled h c p e) =
          let k = head_len paper n t in
          let l : k ≡ line_len t = head_line n t h in
          let front : get_or (drop k t) 0 0 ≡ 94 = ap (λ (x : List ℕ). get_or x 0 0) (at_drop 94 (omega arith) k t c) in
          let q : peel_len paper n (drop k t) ≡ line_len (drop k t) = peel_line_lem n (drop k t) front p in
          let z : size_of paper n t ≡ k + peel_len paper n (drop k t) = size_good paper n t _ e in
          two (rw (q, l) at z) (rw l at (head_feed n t h)) (rw l at c) (rw (q, l) at (peel_feed n (drop k t) p))

  pub first_hex : 0 < n → (t : List ℕ) → is_good (record_of paper n t) ≡ true → is_hex (get_or t 0 0) ≡ true
  first_hex pos t g = go (view paper n t)
    where
      by : Head paper n t → is_hex (get_or t 0 0) ≡ true
      by h = front_passes is_hex t (omega (arith, h.id))

      go : View paper n t → is_hex (get_or t 0 0) ≡ true
      go (is_bad_lem f w e) = absurd (not_bad n t g e)
      go (plain h c e) = by h
      go (peeled h c p e) = by h
