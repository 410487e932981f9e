-- Every item is what reading at its place gives: it goes forward, begins a line and covers whole lines.
use mathlib.Core.Path.{◌≡◌, refl, sym, ap, ◌∙◌}
use mathlib.Core.Bool.{Bool, true, false}
use mathlib.Core.List.{List, [], ◌∷◌, ◌++◌}
use Prim.Native.Nat.{ℕ, suc, ◌+◌, ◌-◌, ◌≤◌, ◌<◌}
use native.Mathlib.Nat.{add-zero}
use native.Mathlib.Omega.{arith}
use lib.Dec.{eqb}
use lib.ListN.{get_or, length, take, drop, length-append, length-drop}
use lib.Seq.{drop-drop, get_or-drop, length-take-le}
use borrow.Author.Tests.{eqb-true}
use Rattle.parse.specs.Choice.{if}
use Rattle.class.specs.Class.{Classes, paper}
use Rattle.parse.specs.Line.{line_len}
use Rattle.parse.proofs.Fronts.{line_len_some}
use Rattle.decode.specs.declared.reference.Fault.{Fault}
use Rattle.decode.specs.Record.{record_of}
use Rattle.probe.specs.RecordStart.{line_start}
use Rattle.probe.proofs.Starts.{line_stop}
use Rattle.iter.specs.Items.{Item, size_of, item_of, items, bytes_of}
use Rattle.iter.specs.Stands.{Stands, Lines, one, two, EachItem, Tiled}
use Rattle.iter.proofs.Items.{items_step, some_item, size_le, size_some, tile}
use Rattle.iter.proofs.Covers.{Covered, line, pair, covered}
use Rattle.std.specs.declared.result.Result.TheVariants.{Err}

-- ---- a line with bytes behind it ends with a line feed, so that a line begins behind it

line_feed_lem : (t : List ℕ) → line_len t < length t → get_or t (line_len t - 1) 0 ≡ 10
line_feed_lem [] h = absurd (omega arith)
line_feed_lem (b ∷ t) h = go (eqb b 10) refl h (line_feed_lem t)
  where
    go : (v : Bool) → eqb b 10 ≡ v → if v 1 (suc (line_len t)) < suc (length t) → (line_len t < length t → get_or t (line_len t - 1) 0 ≡ 10)
        → get_or (b ∷ t) (if v 1 (suc (line_len t)) - 1) 0 ≡ 10
    go true e q ih = eqb-true b 10 e
    go false e q ih =
        let z : suc (line_len t) - 1 ≡ suc (line_len t - 1) = omega (arith, line_len_some t (omega arith)) in
        rw z (ih (omega arith))

pub line_behind_lem : (s : List ℕ) (p : ℕ) → p + line_len (drop p s) < length s → line_start s (p + line_len (drop p s)) ≡ p + line_len (drop p s)
line_behind_lem s p h =
    let t = drop p s in
    let l : length t ≡ length s - p = length-drop p s in
    let some : 1 ≤ line_len t = line_len_some t (omega arith) in
    let z : p + (line_len t - 1) ≡ p + line_len t - 1 = omega arith in
    let e : get_or s (p + (line_len t - 1)) 0 ≡ 10 = sym (get_or-drop p s (line_len t - 1) 0) ∙ line_feed_lem t (omega arith) in
    line_stop s (p + line_len t) (omega arith) (rw z at e)

module _ (n : ℕ) where
  pub item_behind : (s : List ℕ) (p : ℕ) → p + size_of paper n (drop p s) < length s
      → line_start s (p + size_of paper n (drop p s)) ≡ p + size_of paper n (drop p s)
  item_behind s p h = go (covered n (drop p s))
    where
      go : Covered n (drop p s) → line_start s (p + size_of paper n (drop p s)) ≡ p + size_of paper n (drop p s)
      go (line e) = rw e (line_behind_lem s p (omega arith))
      go (pair c e) =
          let a = line_len (drop p s) in
          let d : drop a (drop p s) ≡ drop (p + a) s = drop-drop a p s in
          let l : line_len (drop a (drop p s)) ≡ line_len (drop (p + a) s) = ap line_len d in
          let z : p + size_of paper n (drop p s) ≡ p + a + line_len (drop (p + a) s) = omega arith in
          rw z (line_behind_lem s (p + a) (omega arith))

  -- ---- the item at a place where a line begins

  lines_of : (t : List ℕ) → Lines t (take (size_of paper n t) t)
  lines_of t = go (covered n t)
    where
      go : Covered n t → Lines t (take (size_of paper n t) t)
      go (line e) = one (rw e)
      go (pair c e) = two (rw e)

  error_line : (t : List ℕ) (f : Fault) → record_of paper n t ≡ Err f → take (size_of paper n t) t ≡ take (line_len t) t
  unfolding size_of
  error_line t f e = rw e

  each_here : (s : List ℕ) (p : ℕ) (it : Item) → p < length s → it ≡ item_of paper n (drop p s) → line_start s p ≡ p → EachItem n s p it
  each_here s p it inside e start =
      let t = drop p s in
      let l : length t ≡ length s - p = length-drop p s in
      let k : length it.bytes ≡ size_of paper n t = ap (λ (x : Item). length x.bytes) e ∙ length-take-le (size_of paper n t) t (size_le paper n t) in
      record {
        read = e;
        forward = omega (arith, size_some paper n t (omega arith));
        inside = omega (arith, size_le paper n t);
        start = start;
        lines = rw e (lines_of t);
        error = λ f bad. ap (λ (x : Item). x.bytes) e ∙ error_line t f (sym (ap (λ (x : Item). x.what) e) ∙ bad);
      }

  -- ---- from item to item

  each_from : (before : List Item) (it : Item) (after : List Item) (s : List ℕ) (p : ℕ) → (p < length s → line_start s p ≡ p)
      → items paper n (drop p s) ≡ before ++ it ∷ after → EachItem n s (p + length (bytes_of before)) it
  each_from [] it after s p start e =
      let some : 0 < length (drop p s) = some_item paper n (drop p s) it after e in
      let inside : p < length s = omega (arith, length-drop p s) in
      rw (add-zero p) (each_here s p it inside (cc (items_step paper n (drop p s) some)) (start inside))
  each_from (b ∷ bs) it after s p start e =
      let t = drop p s in
      let k = size_of paper n t in
      let some : 0 < length t = some_item paper n t b (bs ++ it ∷ after) e in
      let q : b ≡ item_of paper n t = cc (items_step paper n t some) in
      let c : length b.bytes ≡ k = ap (λ (x : Item). length x.bytes) q ∙ length-take-le k t (size_le paper n t) in
      let rest : items paper n (drop k t) ≡ bs ++ it ∷ after = cc (items_step paper n t some) in
      let z : p + length (b.bytes ++ bytes_of bs) ≡ p + k + length (bytes_of bs) = omega (arith, length-append b.bytes (bytes_of bs)) in
      rw z (each_from bs it after s (p + k) (item_behind s p) (rw (drop-drop k p s) at rest))

  pub each : (s : List ℕ) (place : ℕ) (it : Item) → Stands paper n s place it → EachItem n s place it
  each s place it h =
      let z : 0 + length (bytes_of h.before) ≡ place = omega (arith, h.here) in
      rw z at (each_from h.before it h.after s 0 (λ l. refl) h.all)

pub tiled : (byte : Classes) (n : ℕ) (s : List ℕ) → Tiled byte n s
tiled byte n s = record { all = tile byte n s }
