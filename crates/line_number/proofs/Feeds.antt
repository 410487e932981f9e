-- Line feeds: among bytes one after another, in a line, and up to a place.
use mathlib.Core.Path.{◌≡◌, refl, sym, ap, ◌∙◌}
use mathlib.Core.Bool.{Bool, true, false, not}
use mathlib.Core.List.{List, [], ◌∷◌, ◌++◌}
use Prim.Native.Nat.{ℕ, zero, suc, ◌+◌, ◌-◌, ◌^◌, ◌≤◌, ◌<◌, min}
use native.Mathlib.Omega.{arith}
use lib.Dec.{ltb, eqb}
use lib.ListN.{get_or, length, take, drop, length-drop}
use lib.Seq.{drop-cons, get_or-drop, take-add}
use borrow.Author.Tests.{eq-eqb, lt-ltb, ltb-true, ltb-false}
use Rattle.parse.specs.Choice.{if}
use Rattle.parse.specs.Line.{eol, line_len}
use Rattle.parse.proofs.Fronts.{Eol, none, lf, crlf, eol_view}
use Rattle.parse.proofs.Runs.{span_le, line_reach}
use Rattle.std.specs.Int.{from_bool}
use Rattle.line_number.specs.LineNumber.{line_feeds, line_number, at_most, line_told, until_feed}

-- ---- among some bytes

-- any byte but a line feed
abbrev pub other : ℕ → Bool
other b = not (eqb b 10)

-- the largest number stays, as it does in std's sum
pub most_is : (line : ℕ) → min line (2 ^ 64 - 1) ≡ at_most line
unfolding at_most
most_is line = go (ltb line 18446744073709551615) refl
  where
    go : (t : Bool) → ltb line 18446744073709551615 ≡ t → min line (2 ^ 64 - 1) ≡ if t line 18446744073709551615
    go true e = omega (arith, ltb-true line 18446744073709551615 e)
    go false e = omega (arith, ltb-false line 18446744073709551615 e)

-- a number that fits is told as it is
pub within : (line : ℕ) → line < 18446744073709551615 → at_most line ≡ line
unfolding at_most
within line h = rw (lt-ltb line 18446744073709551615 h)

-- no more than there are bytes
pub feeds_le : (s : List ℕ) (k : ℕ) → line_feeds (take k s) ≤ length s
feeds_le s zero = omega arith
feeds_le [] (suc k) = omega arith
feeds_le (b ∷ s) (suc k) = go (eqb b 10) (feeds_le s k)
  where
    go : (c : Bool) → line_feeds (take k s) ≤ length s → if c (suc (line_feeds (take k s))) (line_feeds (take k s)) ≤ suc (length s)
    go true h = omega arith
    go false h = omega arith

-- under the size limit the number that is told is the true one
pub true_line : (s : List ℕ) (place : ℕ) → length s ≤ 1073741824 → line_told s place ≡ line_number s place
unfolding line_number
true_line s place h = within (suc (line_feeds (take place s))) (omega (arith, feeds_le s place))

-- ---- up to a place, and from there over more bytes

pub feeds_append : (a b : List ℕ) → line_feeds (a ++ b) ≡ line_feeds a + line_feeds b
feeds_append [] b = omega arith
feeds_append (c ∷ a) b = go (eqb c 10) (feeds_append a b)
  where
    go : (t : Bool) → line_feeds (a ++ b) ≡ line_feeds a + line_feeds b
        → if t (suc (line_feeds (a ++ b))) (line_feeds (a ++ b)) ≡ if t (suc (line_feeds a)) (line_feeds a) + line_feeds b
    go true h = omega arith
    go false h = h

pub feeds_take : (s : List ℕ) (i k : ℕ) → line_feeds (take (i + k) s) ≡ line_feeds (take i s) + line_feeds (take k (drop i s))
feeds_take s i k = ap line_feeds (take-add i k s) ∙ feeds_append (take i s) (take k (drop i s))

-- one more byte
pub feeds_next : (s : List ℕ) (i : ℕ) → i < length s → line_feeds (take (i + 1) s) ≡ line_feeds (take i s) + from_bool (eqb (get_or s i 0) 10)
feeds_next s i h =
    let one : take 1 (drop i s) ≡ get_or s i 0 ∷ [] = rw (drop-cons s i 0 h) in
    feeds_take s i 1 ∙ ap (λ (l : List ℕ). line_feeds (take i s) + line_feeds l) one ∙ ap (λ (n : ℕ). line_feeds (take i s) + n) (go (eqb (get_or s i 0) 10))
  where
    go : (c : Bool) → if c 1 0 ≡ from_bool c
    go true = refl
    go false = refl

-- the line number behind some bytes is their line feeds more
pub number_on : (s : List ℕ) (place k : ℕ) → line_number s (place + k) ≡ line_number s place + line_feeds (take k (drop place s))
unfolding line_number
number_on s place k = omega (arith, feeds_take s place k)

-- ---- a line: through its line feed, or the rest

-- its text and its line feeds are all of it
pub line_parts : (s : List ℕ) → until_feed s + line_feeds (take (line_len s) s) ≡ line_len s
line_parts [] = refl
line_parts (b ∷ s) = go (eqb b 10) refl (line_parts s)
  where
    go : (c : Bool) → eqb b 10 ≡ c → until_feed s + line_feeds (take (line_len s) s) ≡ line_len s
        → if (not c) (suc (until_feed s)) 0 + line_feeds (take (if c 1 (suc (line_len s))) (b ∷ s)) ≡ if c 1 (suc (line_len s))
    go true e h = rw e
    go false e h = rw e (omega arith)

-- it has one line feed at most
pub one_feed : (s : List ℕ) → line_feeds (take (line_len s) s) ≤ 1
one_feed [] = omega arith
one_feed (b ∷ s) = go (eqb b 10) refl (one_feed s)
  where
    go : (c : Bool) → eqb b 10 ≡ c → line_feeds (take (line_len s) s) ≤ 1 → line_feeds (take (if c 1 (suc (line_len s))) (b ∷ s)) ≤ 1
    go true e h = rw e (omega arith)
    go false e h = rw e h

pub until_le : (s : List ℕ) → until_feed s ≤ length s
until_le s = span_le other s

-- its text ends no later than a line feed stands
pub until_at : (s : List ℕ) (i : ℕ) → get_or s i 0 ≡ 10 → until_feed s ≤ i
until_at [] i h = absurd (omega arith)
until_at (b ∷ s) zero h = rw (eq-eqb b 10 h) (omega arith)
until_at (b ∷ s) (suc i) h = go (eqb b 10) (until_at s i h)
  where
    go : (c : Bool) → until_feed s ≤ i → if (not c) (suc (until_feed s)) 0 ≤ suc i
    go true k = omega arith
    go false k = omega arith

-- so a line whose last byte is a line feed has one
pub ended_line : (s : List ℕ) (i : ℕ) → suc i ≡ line_len s → get_or s i 0 ≡ 10 → line_feeds (take (line_len s) s) ≡ 1
ended_line s i e h = omega (arith, line_parts s, one_feed s, until_at s i h)

-- the line from a place on ends behind its line feed, or with the bytes
pub line_behind_lem : (s : List ℕ) (place : ℕ) → place ≤ length s
    → if (ltb (place + until_feed (drop place s)) (length s)) (place + until_feed (drop place s) + 1) (place + until_feed (drop place s)) ≡ place + line_len (drop place s)
line_behind_lem s place inside = go (ltb (place + until_feed (drop place s)) (length s)) refl
  where
    t : List ℕ
    t = drop place s

    go : (c : Bool) → ltb (place + until_feed t) (length s) ≡ c → if c (place + until_feed t + 1) (place + until_feed t) ≡ place + line_len t
    go true e = omega (arith, (line_reach t).0 (omega (arith, ltb-true (place + until_feed t) (length s) e, length-drop place s)))
    go false e = omega (arith, (line_reach t).1 (omega (arith, ltb-false (place + until_feed t) (length s) e, length-drop place s)))

-- the text of a line lies in it, and is the text of its own bytes
pub until_in : (s : List ℕ) → until_feed s ≤ line_len s
until_in s = omega (arith, line_parts s)

pub until_line : (s : List ℕ) → until_feed (take (line_len s) s) ≡ until_feed s
until_line [] = refl
until_line (b ∷ s) = go (eqb b 10) refl (until_line s)
  where
    go : (c : Bool) → eqb b 10 ≡ c → until_feed (take (line_len s) s) ≡ until_feed s
        → until_feed (take (if c 1 (suc (line_len s))) (b ∷ s)) ≡ if (not c) (suc (until_feed s)) 0
    go true e h = rw e
    go false e h = rw e (ap suc h)

-- a line end's last byte is a line feed
pub eol_last : (t : List ℕ) (k i : ℕ) → 0 < eol (drop k t) → suc i ≡ k + eol (drop k t) → get_or t i 0 ≡ 10
eol_last t k i some e = go (eol_view (drop k t))
  where
    at : (j : ℕ) → get_or (drop k t) j 0 ≡ 10 → k + j ≡ i → get_or t i 0 ≡ 10
    at j h q = ap (λ (x : ℕ). get_or t x 0) (sym q) ∙ sym (get_or-drop k t j 0) ∙ h

    go : Eol (drop k t) → get_or t i 0 ≡ 10
    go (none z) = absurd (omega arith)
    go (lf h z) = at 0 h (omega arith)
    go (crlf h g z) = at 1 g (omega arith)
