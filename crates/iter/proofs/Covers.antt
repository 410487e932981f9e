-- An item's lines: it is one line, or two where the second begins with `^`.
use mathlib.Core.Path.{◌≡◌, ap}
use mathlib.Core.List.{List}
use Prim.Native.Nat.{ℕ, ◌+◌, ◌<◌}
use native.Mathlib.Omega.{arith}
use lib.ListN.{get_or, drop}
use Rattle.class.specs.Class.{paper}
use Rattle.parse.specs.Line.{line_len}
use Rattle.parse.proofs.Fronts.{at_drop}
use Rattle.decode.proofs.Records.{View, is_bad_lem, plain, peeled, view, head_len, peel_len}
use Rattle.decode.proofs.Locality.{head_line, peel_line_lem}
use Rattle.iter.specs.Items.{size_of}

pub front_at : (b : ℕ) → 0 < b → (k : ℕ) (s : List ℕ) → get_or s k 0 ≡ b → get_or (drop k s) 0 0 ≡ b
front_at b p k s h = ap (λ (x : List ℕ). get_or x 0 0) (at_drop b p k s h)

module _ (n : ℕ) where
  pub data Covered (s : List ℕ) : Type 0 where
    line : size_of paper n s ≡ line_len s → Covered s
    pair : get_or s (line_len s) 0 ≡ 94 → size_of paper n s ≡ line_len s + line_len (drop (line_len s) s) → Covered s

  pub covered : (s : List ℕ) → Covered s
  unfolding size_of
  covered s = go (view paper n s)
    where
      go : View paper n s → Covered s
      go (is_bad_lem f w e) = line (rw e)
      go (plain h c e) = line (rw e (head_line n s h))
      go (peeled h c p e) =
          let k = head_len paper n s in
          let l : k ≡ line_len s = head_line n s h in
          let q : peel_len paper n (drop k s) ≡ line_len (drop k s) = peel_line_lem n (drop k s) (front_at 94 (omega arith) k s c) p in
          pair (rw l at c) (rw e (cc))
