-- A name whose bytes are plain, each behind the one before it, is valid if a slash stands in it and it ends well. Assumes nothing.
use mathlib.Core.Path.{◌≡◌, refl, sym, ap, ◌∙◌}
use mathlib.Core.Bool.{Bool, true, false, not, ◌&&◌, ◌||◌, and-true, or-false, or_assoc, false≢true}
use mathlib.Core.List.{List, [], ◌∷◌}
use Prim.Native.Nat.{ℕ, suc, ◌+◌, ◌-◌, ◌≤◌, ◌<◌}
use native.Mathlib.Numerals.{add-one}
use native.Mathlib.Omega.{arith}
use borrow.Author.Tests.{eqb-true, ne_eqb, leb-true, leb-false, lt-leb, le-ltb}
use lib.Dec.{leb, eqb}
use lib.ListN.{length, get_or}
use Rattle.class.specs.Class.{paper, is_forbidden}
use Rattle.compare.specs.Prefix.{begins, same}
use Rattle.compare.proofs.Prefixes.{same_is}
use Rattle.name.specs.Words.{contains, ends}
use Rattle.name.specs.Name.{slash, dot_lock, valid_name}
use Rattle.name.specs.ByLetters.{dot_lock_slash}
use Rattle.name.specs.Plain.{quiet, dot_or_slash, plain_pair, plain_at}
use Rattle.name.proofs.Bools.{and_left, and_right}
use Rattle.name.proofs.ByLetters.{by_letters}
use Rattle.name.proofs.Components.{locked, no_locks}
use Rattle.name.proofs.OnePass.{follows, pass, valid_pass}

-- ---- a plain pair: what stands in it

-- a quiet byte is none that is not, and so it is allowed
module _ (b : ℕ) (h : quiet b ≡ true) where
  none : (x : ℕ) → quiet x ≡ false → eqb b x ≡ false
  none x l = ne_eqb b x (λ e. false≢true (sym l ∙ ap quiet (sym e) ∙ h))

  not_low : 45 ≤ b
  unfolding quiet
  not_low = go (leb 45 b) refl
    where
      go : (t : Bool) → leb 45 b ≡ t → 45 ≤ b
      go true e = leb-true 45 b e
      go false e =
          let low = leb-false 45 b e in
          absurd (false≢true (rw (e, lt-leb 65 b (omega arith), lt-leb 95 b (omega arith)) at h))

  quiet_allowed : is_forbidden b ≡ false
  unfolding is_forbidden quiet
  quiet_allowed =
      let low = not_low in
      rw (le-ltb b 32 (omega arith), none 127 refl, none 32 refl, none 126 refl, none 94 refl, none 58 refl, none 63 refl, none 42 refl, none 91 refl, none 92 refl)

module _ (a b : ℕ) (h : plain_pair a b ≡ true) where
  -- it is no pair that is not plain
  no_pair : (x y : ℕ) → plain_pair x y ≡ false → begins (x ∷ y ∷ []) (a ∷ b ∷ []) ≡ false
  no_pair x y l = go (eqb a x) (eqb b y) refl refl
    where
      go : (t u : Bool) → eqb a x ≡ t → eqb b y ≡ u → (t && (u && true)) ≡ false
      go false u e f = refl
      go true false e f = refl
      go true true e f = absurd (false≢true (sym l ∙ cc (eqb-true a x e, eqb-true b y f)))

  plain_follows : follows paper a b ≡ true
  unfolding plain_pair quiet dot_or_slash
  plain_follows = rw (quiet_allowed b (and_left (quiet b) _ h), no_pair 47 46 refl, no_pair 46 46 refl, no_pair 47 47 refl, no_pair 64 123 refl)

-- ---- bytes that are plain one behind the other, the first of them behind a

abbrev plain_from : ℕ → List ℕ → Bool
plain_from a [] = true
plain_from a (b ∷ s) = plain_pair a b && plain_from b s

plain_from_lem : (a : ℕ) (s : List ℕ) → ((k : ℕ) → k < length s → plain_at (a ∷ s) k ≡ true) → plain_from a s ≡ true
plain_from_lem a [] all = refl
plain_from_lem a (b ∷ s) all = rw (all 0 (omega arith)) (plain_from_lem b s (λ k h. rw (add-one k) (rw (add-one (suc k)) at (all (suc k) (omega arith)))))

-- the last byte, or a where there is none
abbrev last_of : ℕ → List ℕ → ℕ
last_of a [] = a
last_of a (b ∷ s) = last_of b s

last_at : (a : ℕ) (s : List ℕ) → last_of a s ≡ get_or (a ∷ s) (length s) 0
last_at a [] = refl
last_at a (b ∷ s) = last_at b s

-- they pass
plain_pass : (slashed : Bool) (a : ℕ) (s : List ℕ) → plain_from a s ≡ true → (slashed || contains slash s) ≡ true
    → eqb (last_of a s) 47 ≡ false → eqb (last_of a s) 46 ≡ false → pass paper slashed a s ≡ true
plain_pass slashed a [] all met e f = rw (e, f, and-true, and-true) (sym (or-false slashed) ∙ met)
plain_pass slashed a (b ∷ s) all met e f =
    rw (plain_follows a b (and_left (plain_pair a b) (plain_from b s) all))
    (plain_pass (slashed || eqb b 47) b s (and_right (plain_pair a b) (plain_from b s) all) (or_assoc slashed (eqb b 47) (contains slash s) ∙ (rw and-true at met)) e f)

-- ---- no component ends with `.lock`

plain_front : (w s : List ℕ) (a : ℕ) → plain_from a s ≡ true → begins w s ≡ true → plain_from a w ≡ true
plain_front [] s a all h = refl
plain_front (x ∷ w) [] a all h = absurd (false≢true h)
plain_front (x ∷ w) (b ∷ s) a all h =
    let alike = eqb-true b x (and_left (eqb b x) (begins w s) h) in
    rw (← alike) (rw (and_left (plain_pair a b) (plain_from b s) all) (plain_front w s b (and_right (plain_pair a b) (plain_from b s) all) (and_right (eqb b x) (begins w s) h)))

no_lock_slash : (s : List ℕ) (a : ℕ) → plain_from a s ≡ true → contains dot_lock_slash s ≡ false
unfolding plain_pair quiet dot_or_slash
no_lock_slash [] a all = refl
no_lock_slash (b ∷ s) a all = go (begins dot_lock_slash (b ∷ s)) refl (no_lock_slash s b (and_right (plain_pair a b) (plain_from b s) all))
  where
    go : (t : Bool) → begins dot_lock_slash (b ∷ s) ≡ t → contains dot_lock_slash s ≡ false → (t || contains dot_lock_slash s) ≡ false
    go true e rest = absurd (false≢true (and_right (plain_pair a 46) _ (plain_front dot_lock_slash (b ∷ s) a all e)))
    go false e rest = rest

-- where `.lock` ends them, the last is k
no_lock_end : (a : ℕ) (s : List ℕ) → eqb (last_of a s) 107 ≡ false → ends dot_lock s ≡ false
no_lock_end a [] e = refl
no_lock_end a (b ∷ s) e = go (same dot_lock (b ∷ s)) refl (no_lock_end b s e)
  where
    go : (t : Bool) → same dot_lock (b ∷ s) ≡ t → ends dot_lock s ≡ false → (t || ends dot_lock s) ≡ false
    go true q rest = absurd (false≢true (sym e ∙ ap (λ l. eqb (last_of a l) 107) (same_is dot_lock (b ∷ s) q)))
    go false q rest = rest

-- ---- the whole

-- read as if a slash stood before it
pub plain_valid : (s : List ℕ) → plain_pair 47 (get_or s 0 0) ≡ true → ((k : ℕ) → k + 1 < length s → plain_at s k ≡ true) → contains slash s ≡ true
    → (let last = get_or s (length s - 1) 0 in (eqb last 47 ≡ false) × (eqb last 46 ≡ false) × (eqb last 107 ≡ false)) → valid_name paper s ≡ true
plain_valid [] first all met ends = absurd (false≢true met)
plain_valid (b ∷ s) first all met ends =
    let from : plain_from 47 (b ∷ s) ≡ true = rw first (plain_from_lem b s (λ k h. all k (omega arith))) in
    let end : length s ≡ length (b ∷ s) - 1 = omega arith in
    let last : last_of b s ≡ get_or (b ∷ s) (length (b ∷ s) - 1) 0 = last_at b s ∙ ap (λ k. get_or (b ∷ s) k 0) end in
    let unlocked : not (locked [] (b ∷ s)) ≡ true =
    sym (no_locks (b ∷ s)) ∙ (by_letters (b ∷ s)).locks ∙ rw (no_lock_end b (b ∷ s) (ap (λ k. eqb k 107) last ∙ ends.2), no_lock_slash (b ∷ s) 47 from) in
    valid_pass paper (b ∷ s)
    ∙ rw (plain_pass false 47 (b ∷ s) from met (ap (λ k. eqb k 47) last ∙ ends.0) (ap (λ k. eqb k 46) last ∙ ends.1)) unlocked
