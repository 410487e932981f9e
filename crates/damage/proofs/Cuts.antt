-- Items cut at a place: those that end before it and those that begin from it on.
use mathlib.Core.Path.{◌≡◌, refl, sym, ap, ◌∙◌}
use mathlib.Core.Bool.{Bool, true, false, and-eq-true_iff}
use mathlib.Core.List.{List, [], ◌∷◌, ◌++◌}
use Prim.Native.Nat.{ℕ, zero, suc, ◌-◌, ◌≤◌, ◌<◌}
use native.Mathlib.Omega.{arith}
use lib.Dec.{ltb}
use lib.ListN.{length, length-append}
use borrow.Author.Tests.{ltb-true, le-ltb}
use Rattle.parse.specs.Choice.{if}
use Rattle.iter.specs.Items.{Item, bytes_of}
use Rattle.checks.specs.Passes.{is_good, all_good}

-- of some items, read from place 0: those that end before a place, with at least one byte between
abbrev pub end_before : ℕ → List Item → List Item
end_before place [] = []
end_before place (i ∷ l) = if (ltb (length i.bytes) place) (i ∷ end_before (place - length i.bytes) l) []

-- those that begin at a place or behind it
abbrev pub begin_from : ℕ → List Item → List Item
begin_from place [] = []
begin_from zero (i ∷ l) = i ∷ l
begin_from (suc place) (i ∷ l) = begin_from (suc place - length i.bytes) l

pub begin_all : (l : List Item) → begin_from 0 l ≡ l
begin_all [] = refl
begin_all (i ∷ l) = refl

pub end_zero : (l : List Item) → end_before 0 l ≡ []
end_zero [] = refl
end_zero (i ∷ l) = rw (le-ltb (length i.bytes) 0 (omega arith))

pub end_bytes : (place : ℕ) (l : List Item) → length (bytes_of (end_before place l)) ≤ place
end_bytes place [] = omega arith
end_bytes place (i ∷ l) = go (ltb (length i.bytes) place) refl (end_bytes (place - length i.bytes) l)
  where
    rest : List Item
    rest = end_before (place - length i.bytes) l

    go : (t : Bool) → ltb (length i.bytes) place ≡ t → length (bytes_of rest) ≤ place - length i.bytes → length (bytes_of (if t (i ∷ rest) [])) ≤ place
    go true e h = omega (arith, ltb-true, length-append i.bytes (bytes_of rest))
    go false e h = omega arith

pub good_begin : (place : ℕ) (l : List Item) → all_good l ≡ true → all_good (begin_from place l) ≡ true
good_begin place [] h = h
good_begin zero (i ∷ l) h = h
good_begin (suc place) (i ∷ l) h = good_begin (suc place - length i.bytes) l ((and-eq-true_iff (is_good i.what) (all_good l)).0 h).1

-- what begins from a place on stands behind all that ends before it
begin_append : (place : ℕ) (l m : List Item) → length (bytes_of l) < place → begin_from place (l ++ m) ≡ begin_from (place - length (bytes_of l)) m
begin_append place [] m h = ap (λ (k : ℕ). begin_from k m) (omega arith)
begin_append zero (i ∷ l) m h = absurd (omega arith)
begin_append (suc place) (i ∷ l) m h =
    let k = length-append i.bytes (bytes_of l) in
    begin_append (suc place - length i.bytes) l m (omega arith) ∙ ap (λ (j : ℕ). begin_from j m) (omega arith)

begin_suffix : (place : ℕ) (l : List Item) → (m : List Item) × (l ≡ m ++ begin_from place l)
begin_suffix place [] = ([], refl)
begin_suffix zero (i ∷ l) = ([], refl)
begin_suffix (suc place) (i ∷ l) =
    let (m, e) = begin_suffix (suc place - length i.bytes) l in
    (i ∷ m, ap (λ (x : List Item). i ∷ x) e)

-- so items with a known front, and a known part from a place behind it on, are these two with others between
pub between : (place : ℕ) (l front rest back : List Item) → l ≡ front ++ rest → length (bytes_of front) < place → begin_from place l ≡ back
    → (mid : List Item) × (l ≡ front ++ (mid ++ back))
between place l front rest back e h b =
    let (mid, s) = begin_suffix (place - length (bytes_of front)) rest in
    let t : begin_from (place - length (bytes_of front)) rest ≡ back = sym (begin_append place front rest h) ∙ sym (ap (begin_from place) e) ∙ b in
    (mid, e ∙ ap (λ (x : List Item). front ++ x) (s ∙ ap (λ (x : List Item). mid ++ x) t))
