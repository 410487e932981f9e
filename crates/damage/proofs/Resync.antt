-- Reading finds its way back: an item is one line, or two where the second begins with `^`, so that behind any line feed the items
-- are those of what follows it, or of what follows its first line.
use mathlib.Core.Path.{◌≡◌, refl, sym, ap, ◌∙◌}
use mathlib.Core.Logic.{inl, inr}
use mathlib.Core.List.{List, [], ◌∷◌, ◌++◌}
use Prim.Native.Nat.{ℕ, zero, suc, ◌+◌, ◌-◌, ◌≤◌, ◌<◌}
use native.Mathlib.Nat.{le-suc_iff}
use native.Mathlib.Omega.{arith}
use lib.ListN.{get_or, length, drop, length-append, length-drop}
use lib.Seq.{drop-append-le, drop-drop, length-take-le}
use Rattle.class.specs.Class.{paper}
use Rattle.parse.specs.Line.{line_len}
use Rattle.parse.proofs.Fronts.{line_len_at}
use Rattle.iter.specs.Items.{size_of, items}
use Rattle.damage.proofs.Cuts.{begin_from, begin_all}
use Rattle.iter.proofs.Covers.{front_at, Covered, line, pair, covered}
use Rattle.iter.proofs.Items.{items_step, size_le, size_some}

-- behind an element of a list
drop_past : (u : List ℕ) (b : ℕ) (c : List ℕ) → drop (suc (length u)) (u ++ b ∷ c) ≡ c
drop_past [] b c = refl
drop_past (a ∷ u) b c = drop_past u b c

module _ (n : ℕ) where
  -- ---- an item and a line feed: it ends there at the latest, or goes on with one line that begins with `^`

  pub data Over (u c : List ℕ) : Type 0 where
    within : size_of paper n (u ++ 10 ∷ c) ≤ suc (length u) → Over u c
    beyond : get_or c 0 0 ≡ 94 → size_of paper n (u ++ 10 ∷ c) ≡ suc (length u) + line_len c → Over u c

  pub over : (u c : List ℕ) → Over u c
  over u c = go (covered n s)
    where
      s : List ℕ
      s = u ++ 10 ∷ c

      go : Covered n s → Over u c
      go (line e) = within (omega (arith, line_len_at u c))
      go (pair a e) =
          elim (le-suc_iff.0 (line_len_at u c)) [
            | inl h ↦
                let d : drop (line_len s) s ≡ drop (line_len s) u ++ 10 ∷ c = drop-append-le (line_len s) u (10 ∷ c) h in
                let l : line_len (drop (line_len s) s) ≡ line_len (drop (line_len s) u ++ 10 ∷ c) = ap line_len d in
                within (omega (arith, line_len_at (drop (line_len s) u) c, length-drop (line_len s) u))
            | inr h ↦
                let d : drop (line_len s) s ≡ c = ap (λ (k : ℕ). drop k s) h ∙ drop_past u 10 c in
                let l : line_len (drop (line_len s) s) ≡ line_len c = ap line_len d in
                beyond (rw d at (front_at 94 (omega arith) (line_len s) s a)) (omega arith)
          ]

  -- ---- the items that begin behind a line feed: all of what follows it, or all but its first line

  pub data After (u c : List ℕ) : Type 0 where
    whole : begin_from (suc (length u)) (items paper n (u ++ 10 ∷ c)) ≡ items paper n c → After u c
    later : get_or c 0 0 ≡ 94 → begin_from (suc (length u)) (items paper n (u ++ 10 ∷ c)) ≡ items paper n (drop (line_len c) c) → After u c

  begin_step : (q : ℕ) (s : List ℕ) → 0 < q → 0 < length s
      → begin_from q (items paper n s) ≡ begin_from (q - size_of paper n s) (items paper n (drop (size_of paper n s) s))
  begin_step zero s p l = absurd (omega arith)
  begin_step (suc q) s p l =
      ap (begin_from (suc q)) (items_step paper n s l)
      ∙ ap (λ (k : ℕ). begin_from (suc q - k) (items paper n (drop (size_of paper n s) s))) (length-take-le (size_of paper n s) s (size_le paper n s))

  -- one item on
  module _ (u c : List ℕ) where
    abbrev k : ℕ
    k = size_of paper n (u ++ 10 ∷ c)

    some : 0 < length (u ++ 10 ∷ c)
    some = omega (arith, length-append u (10 ∷ c))

    on : begin_from (suc (length u)) (items paper n (u ++ 10 ∷ c)) ≡ begin_from (suc (length u) - k) (items paper n (drop k (u ++ 10 ∷ c)))
    on = begin_step (suc (length u)) (u ++ 10 ∷ c) (omega arith) some

    past : (j : ℕ) → k ≡ suc (length u) + j → begin_from (suc (length u)) (items paper n (u ++ 10 ∷ c)) ≡ items paper n (drop j c)
    past j e =
        let z : suc (length u) - k ≡ 0 = omega arith in
        let d : drop k (u ++ 10 ∷ c) ≡ drop j c =
        ap (λ (i : ℕ). drop i (u ++ 10 ∷ c)) e ∙ sym (drop-drop j (suc (length u)) (u ++ 10 ∷ c)) ∙ ap (drop j) (drop_past u 10 c) in
        on ∙ rw (z, d) (begin_all (items paper n (drop j c)))

    shift : k ≤ length u
        → begin_from (suc (length u)) (items paper n (u ++ 10 ∷ c)) ≡ begin_from (suc (length (drop k u))) (items paper n (drop k u ++ 10 ∷ c))
    shift h =
        let z : suc (length u) - k ≡ suc (length (drop k u)) = omega (arith, length-drop k u) in
        on ∙ rw (z, drop-append-le k u (10 ∷ c) h)

    shorter : k ≤ length u → After (drop k u) c → After u c
    shorter h (whole e) = whole (shift h ∙ e)
    shorter h (later g e) = later g (shift h ∙ e)

  after : (f : ℕ) (u c : List ℕ) → length u < f → After u c
  after zero u c h = absurd (omega arith)
  after (suc f) u c h = go (over u c) (λ v l. after f v c l)
    where
      go : Over u c → ((v : List ℕ) → length v < f → After v c) → After u c
      go (beyond g e) ih = later g (past u c (line_len c) e)
      go (within e) ih =
          elim (le-suc_iff.0 e) [
            | inl q ↦ shorter u c q (ih (drop (k u c) u) (omega (arith, length-drop (k u c) u, size_some paper n (u ++ 10 ∷ c) (some u c))))
            | inr q ↦ whole (past u c 0 (omega arith))
          ]

  pub resync : (u c : List ℕ) → After u c
  resync u c = after (suc (length u)) u c (omega arith)
