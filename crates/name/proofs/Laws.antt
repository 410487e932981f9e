-- The laws of a valid name, which are all that the crates above may use of the rules. Assumes nothing.
use mathlib.Core.Path.{◌≡◌, refl}
use mathlib.Core.Logic.{◌↔◌}
use mathlib.Core.Bool.{Bool, true, false, not, ◌&&◌, ◌||◌, and-false}
use mathlib.Core.List.{List, [], ◌∷◌}
use Prim.Native.Nat.{ℕ, zero, suc, ◌<◌}
use native.Mathlib.Omega.{arith}
use borrow.Author.Tests.{eqb-true, not-true}
use lib.Dec.{eqb}
use lib.ListN.{length, get_or}
use Rattle.class.specs.Class.{Classes, paper, is_forbidden, is_line_end}
use Rattle.name.specs.Words.{all}
use Rattle.name.specs.Name.{no_component_begins_with_dot, no_component_ends_with_lock, has_slash, no_dot_dot, no_forbidden_byte, slashes_apart, no_dot_at_the_end, no_at_brace, not_the_lone_at, valid_name}
use Rattle.name.proofs.Bools.{and_left, and_right}

-- ---- a valid name keeps each rule, and what keeps each rule is a valid name

pub record Rules (byte : Classes) (s : List ℕ) : Type 0 where
  pub component_dot : no_component_begins_with_dot s ≡ true
  pub lock : no_component_ends_with_lock s ≡ true
  pub slash : has_slash s ≡ true
  pub dot_dot : no_dot_dot s ≡ true
  pub bytes : no_forbidden_byte byte s ≡ true
  pub slashes : slashes_apart s ≡ true
  pub last_dot : no_dot_at_the_end s ≡ true
  pub at_brace : no_at_brace s ≡ true
  pub is_lone_at : not_the_lone_at s ≡ true

each : (byte : Classes) (s : List ℕ) → valid_name byte s ≡ true → Rules byte s
unfolding valid_name
each byte s h = search (and_left, and_right) depth 8

whole : (byte : Classes) (s : List ℕ) → Rules byte s → valid_name byte s ≡ true
unfolding valid_name
whole byte s r = cc

pub rules : (byte : Classes) (s : List ℕ) → (valid_name byte s ≡ true) ↔ Rules byte s
rules byte s = (each byte s, whole byte s)

-- rule 9 follows from rule 2
pub lone_at_lem : (s : List ℕ) → has_slash s ≡ true → not_the_lone_at s ≡ true
lone_at_lem [] h = refl
lone_at_lem (b ∷ []) h = go (eqb b 64) refl
  where
    go : (t : Bool) → eqb b 64 ≡ t → not (t && true) ≡ true
    go false e = refl
    go true e = rw (eqb-true b 64 e) at h
lone_at_lem (b ∷ c ∷ s) h = rw and-false

-- ---- there is a byte

pub not_empty : (byte : Classes) → valid_name byte [] ≡ false
unfolding valid_name
not_empty byte = refl

pub valid_some : (byte : Classes) (s : List ℕ) → valid_name byte s ≡ true → 0 < length s
valid_some byte [] h = absurd (let z : ◌≡◌ {A = ℕ} 0 1 = cc (not_empty byte) in omega arith)
valid_some byte (b ∷ s) h = omega arith

-- ---- every byte is allowed

all_at : (p : ℕ → Bool) (s : List ℕ) (i : ℕ) → all p s ≡ true → i < length s → p (get_or s i 0) ≡ true
all_at p [] i h l = absurd (omega arith)
all_at p (b ∷ s) zero h l = and_left (p b) (all p s) h
all_at p (b ∷ s) (suc i) h l = all_at p s i (and_right (p b) (all p s) h) (omega arith)

pub valid_allowed : (byte : Classes) (s : List ℕ) → valid_name byte s ≡ true → (i : ℕ) → i < length s
    → byte.forbidden (get_or s i 0) ≡ false
valid_allowed byte s h i l = not-true _ (all_at (λ b. not (byte.forbidden b)) s i ((rules byte s).0 h).bytes l)

-- CR and LF are forbidden
allowed_text : (b : ℕ) → is_forbidden b ≡ false → is_line_end b ≡ false
unfolding is_forbidden is_line_end
allowed_text b h = go (eqb b 10) refl (eqb b 13) refl
  where
    go : (t : Bool) → eqb b 10 ≡ t → (u : Bool) → eqb b 13 ≡ u → t || u ≡ false
    go false e false f = refl
    go false e true f = rw (eqb-true b 13 f) at h
    go true e u f = rw (eqb-true b 10 e) at h

pub valid_text : (s : List ℕ) → valid_name paper s ≡ true → (i : ℕ) → i < length s → is_line_end (get_or s i 0) ≡ false
valid_text s h i l = allowed_text (get_or s i 0) (valid_allowed paper s h i l)
