-- The header of a file, by what its first bytes are.
use mathlib.Core.Path.{◌≡◌, refl, ap, ◌∙◌}
use mathlib.Core.Bool.{Bool, true, false}
use mathlib.Core.List.{List, [], ◌∷◌}
use Prim.Native.Nat.{ℕ, ◌-◌, ◌≤◌}
use native.Mathlib.Omega.{arith}
use lib.Dec.{eqb}
use lib.ListN.{get_or, length, take, drop}
use borrow.Author.Tests.{eq-eqb, ne_eqb, eqb-true, eqb-false}
use Rattle.class.specs.Class.{Classes}
use Rattle.parse.specs.Line.{text_at, text_ends}
use Rattle.parse.specs.Choice.{if}
use Rattle.compare.specs.Prefix.{begins, same}
use Rattle.parse.proofs.Views.{text_inside}
use Rattle.header.specs.declared.Header as head
use Rattle.header.specs.declared.Peeled.TheVariants.{Partial, Fully}
use Rattle.header.specs.Header.{mark, tokens, fully_peeled_word, peeled_word, sorted_word, noted, all_noted, plain_header, first_line, header_of, unreadable as unread}
use Rattle.std.specs.declared.option.Option.{Option}
use Rattle.std.specs.declared.option.Option.TheVariants.{Some, None}
use Rattle.std.specs.declared.result.Result.TheVariants.{Ok}
use Rattle.parse.specs.declared.line.Text.{Text}

module _ (byte : Classes) (s : List ℕ) where
  pub no_hash : (get_or s 0 0 ≡ 35 → ⊥) → header_of byte s ≡ Ok (plain_header 0)
  unfolding header_of
  no_hash h = rw (ne_eqb (get_or s 0 0) 35 h)

  module _ (hash : get_or s 0 0 ≡ 35) where
    pub no_mark : begins mark s ≡ false → header_of byte s ≡ unread (first_line s)
    unfolding header_of
    no_mark h = rw (eq-eqb (get_or s 0 0) 35 hash, h)

    module _ (marked : begins mark s ≡ true) where
      pub no_end : text_at byte s 18 ≡ None → header_of byte s ≡ unread (first_line s)
      unfolding header_of
      no_end h = rw (eq-eqb (get_or s 0 0) 35 hash, marked, h)

      pub header_read : {end next : ℕ} → text_at byte s 18 ≡ text_ends end next
          → header_of byte s ≡ Ok (all_noted (tokens (take (end - 18) (drop 18 s))) (plain_header next))
      unfolding header_of
      header_read h = rw (eq-eqb (get_or s 0 0) 35 hash, marked, h)

-- ---- the body begins inside the file

noted_body : (w : List ℕ) (h : head.Header) → (noted w h).body ≡ h.body
unfolding noted
noted_body w h = go (same fully_peeled_word w) (same peeled_word w) (same sorted_word w)
  where
    go : (a b c : Bool)
        → (if a (record { peeled = Fully; sorted = h.sorted; body = h.body })
        (if b (record { peeled = Partial; sorted = h.sorted; body = h.body }) (if c (record { peeled = h.peeled; sorted = true; body = h.body }) h))).body
        ≡ h.body
    go true b c = refl
    go false true c = refl
    go false false true = refl
    go false false false = refl

pub all_noted_body : (l : List (List ℕ)) (h : head.Header) → (all_noted l h).body ≡ h.body
all_noted_body [] h = refl
all_noted_body (w ∷ l) h = all_noted_body l (noted w h) ∙ noted_body w h

-- what the header is, by the first bytes
pub data HeaderView (byte : Classes) (s : List ℕ) : Type 0 where
  none : (get_or s 0 0 ≡ 35 → ⊥) → header_of byte s ≡ Ok (plain_header 0) → HeaderView byte s
  unreadable : get_or s 0 0 ≡ 35 → header_of byte s ≡ unread (first_line s) → HeaderView byte s
  some : get_or s 0 0 ≡ 35 → begins mark s ≡ true → {end next : ℕ} → text_at byte s 18 ≡ text_ends end next
      → header_of byte s ≡ Ok (all_noted (tokens (take (end - 18) (drop 18 s))) (plain_header next)) → HeaderView byte s

pub header_view : (byte : Classes) (s : List ℕ) → HeaderView byte s
header_view byte s = go (eqb (get_or s 0 0) 35) refl (begins mark s) refl (text_at byte s 18) refl
  where
    go : (a : Bool) → eqb (get_or s 0 0) 35 ≡ a → (b : Bool) → begins mark s ≡ b → (w : Option Text) → text_at byte s 18 ≡ w → HeaderView byte s
    go false p b q w r = none (eqb-false _ _ p) (no_hash byte s (eqb-false _ _ p))
    go true p false q w r = unreadable (eqb-true _ _ p) (no_mark byte s (eqb-true _ _ p) q)
    go true p true q None r = unreadable (eqb-true _ _ p) (no_end byte s (eqb-true _ _ p) q r)
    go true p true q (Some t) r = some (eqb-true _ _ p) q r (header_read byte s (eqb-true _ _ p) q r)

pub body_inside : (byte : Classes) (s : List ℕ) (h : head.Header) → header_of byte s ≡ Ok h → h.body ≤ length s
body_inside byte s h e = go (header_view byte s)
  where
    go : HeaderView byte s → h.body ≤ length s
    go (none x f) = let z : h ≡ plain_header 0 = cc in rw z (omega arith)
    go (unreadable x f) = absurd (let z : ◌≡◌ {A = ℕ} 0 1 = cc in omega arith)
    go (some x m {end} {next} t f) =
        let z : h ≡ all_noted (tokens (take (end - 18) (drop 18 s))) (plain_header next) = cc in
        omega (arith, ap (λ (k : head.Header). k.body) z, all_noted_body (tokens (take (end - 18) (drop 18 s))) (plain_header next), (text_inside byte s 18 t).1)
