-- The items from a place on where one stands: it and those behind it. For any classes.
use mathlib.Core.Path.{◌≡◌, ap, ◌∙◌}
use mathlib.Core.Bool.{true, and-eq-true_iff}
use mathlib.Core.List.{List, [], ◌∷◌, ◌++◌}
use Prim.Native.Nat.{ℕ, ◌+◌}
use native.Mathlib.Omega.{arith}
use lib.ListN.{length, drop, length-append}
use lib.Seq.{drop-drop, length-take-le}
use Rattle.class.specs.Class.{Classes}
use Rattle.iter.specs.Items.{Item, size_of, item_of, items, bytes_of, name_of}
use Rattle.checks.specs.Passes.{is_good, all_good, IsAscending}
use Rattle.iter.specs.Stands.{Stands}
use Rattle.iter.proofs.Items.{items_step, some_item, size_le}

-- ---- lists of items

pub bytes_append : (l m : List Item) → length (bytes_of (l ++ m)) ≡ length (bytes_of l) + length (bytes_of m)
bytes_append [] m = omega arith
bytes_append (i ∷ l) m = omega (arith, length-append i.bytes (bytes_of (l ++ m)), length-append i.bytes (bytes_of l), bytes_append l m)

good_behind : (l m : List Item) → all_good (l ++ m) ≡ true → all_good m ≡ true
good_behind [] m g = g
good_behind (i ∷ l) m g = good_behind l m ((and-eq-true_iff (is_good i.what) (all_good (l ++ m))).0 g).1

up_behind : (n : ℕ) (last : List ℕ) (l : List Item) (it : Item) (m : List Item) → IsAscending n last (l ++ it ∷ m) → IsAscending n (name_of n it) m
up_behind n last [] it m up = up.1
up_behind n last (i ∷ l) it m up = up_behind n (name_of n i) l it m up.1

-- ---- bodies

items_behind_lem : (byte : Classes) (n : ℕ) (before rest : List Item) (s : List ℕ) → items byte n s ≡ before ++ rest
    → items byte n (drop (length (bytes_of before)) s) ≡ rest
items_behind_lem byte n [] rest s e = e
items_behind_lem byte n (b ∷ before) rest s e =
    let step = items_step byte n s (some_item byte n s b (before ++ rest) e) in
    let k = size_of byte n s in
    let first : b ≡ item_of byte n s = cc in
    let size : length b.bytes ≡ k = ap (λ (i : Item). length i.bytes) first ∙ length-take-le k s (size_le byte n s) in
    let behind : items byte n (drop k s) ≡ before ++ rest = cc in
    rw (length-append b.bytes (bytes_of before), size, ← drop-drop) (items_behind_lem byte n before rest (drop k s) behind)

module _ (byte : Classes) (n : ℕ) (s : List ℕ) {place : ℕ} {it : Item} (x : Stands byte n s place it) where
  pub items_from : items byte n (drop place s) ≡ it ∷ x.after
  items_from = rw x.here at (items_behind_lem byte n x.before (it ∷ x.after) s x.all)

  pub good_from : all_good (items byte n s) ≡ true → all_good (items byte n (drop place s)) ≡ true
  good_from g = rw items_from (good_behind x.before (it ∷ x.after) (rw x.all at g))

  pub up_from : IsAscending n [] (items byte n s) → IsAscending n (name_of n it) x.after
  up_from up = up_behind n [] x.before it x.after (rw x.all at up)
