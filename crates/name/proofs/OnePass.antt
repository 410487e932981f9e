-- The rules of a name as one pass over its bytes, in which each byte is judged by the one before it. Assumes nothing.
use mathlib.Core.Path.{◌≡◌, refl}
use mathlib.Core.Bool.{Bool, true, false, not, ◌&&◌, ◌||◌, and-true, and-false, or-false, and_assoc, and_comm, or_assoc}
use mathlib.Core.List.{List, [], ◌∷◌}
use Prim.Native.Nat.{ℕ, ◌+◌, ◌≤◌, ◌<◌}
use native.Mathlib.Numerals.{add-one}
use lib.Dec.{eqb}
use lib.ListN.{length, get_or, drop, drop_of_length-le}
use lib.Seq.{drop-cons}
use Rattle.class.specs.Class.{Classes}
use Rattle.compare.specs.Prefix.{begins}
use Rattle.name.specs.Words.{contains, ends, all}
use Rattle.name.specs.Name.{dot, dot_dot, slash, slash_slash, at_brace, valid_name}
use Rattle.name.proofs.Bools.{and_left_comm, not_or}
use Rattle.name.proofs.Components.{locked, no_dots, no_locks}
use Rattle.name.proofs.Laws.{lone_at_lem, not_empty}

-- b may stand right behind a, as `may_follow` promises: it is allowed, and the two are none of `/.` `..` `//` `@{`
abbrev pub follows : Classes → ℕ → ℕ → Bool
follows byte a b =
    not (byte.forbidden b)
    && (not (begins (47 ∷ dot) (a ∷ b ∷ []))
    && (not (begins dot_dot (a ∷ b ∷ []))
    && (not (begins slash_slash (a ∷ b ∷ [])) && not (begins at_brace (a ∷ b ∷ [])))))

-- the rest s of a name passes behind the byte a, where `slashed` says whether a slash was met before
abbrev pub pass : Classes → Bool → ℕ → List ℕ → Bool
pass byte slashed a [] = slashed && not (eqb a 47) && not (eqb a 46)
pass byte slashed a (b ∷ s) = follows byte a b && pass byte (slashed || eqb b 47) b s

-- ---- the pass at a place of the name

module _ (byte : Classes) (slashed : Bool) (a : ℕ) (s : List ℕ) (i : ℕ) where
  pub pass_at : i < length s
      → pass byte slashed a (drop i s)
      ≡ (follows byte a (get_or s i 0) && pass byte (slashed || eqb (get_or s i 0) 47) (get_or s i 0) (drop (i + 1) s))
  pass_at h = rw (drop-cons s i 0 h, add-one i)

  pub pass_end : length s ≤ i → pass byte slashed a (drop i s) ≡ (slashed && not (eqb a 47) && not (eqb a 46))
  pass_end h = rw (drop_of_length-le s h)

-- ---- the pass is the rules

-- what is asked of the byte at hand (small letters) joins what is asked of the rest (capitals)
join : (f p q r t h F P Q R T E D : Bool)
    → ((not f && (not p && (not q && (not r && not t))))
    && (h && (F && (not P && (not Q && (not R && (not T && (not E && not D))))))))
    ≡ (h
    && ((not f && F) && (not (p || P) && (not (q || Q) && (not (r || R) && (not (t || T) && (not E && not D)))))))
join f p q r t h F P Q R T E D = simp (not_or, and_assoc, and_comm, and_left_comm)

-- Each rule by itself, of the byte before and the rest. All in one induction, since every word here is found or
-- missed at the byte at hand in the same way.
apart : (byte : Classes) (slashed : Bool) (a : ℕ) (s : List ℕ)
    → pass byte slashed a s
    ≡ ((slashed || contains slash s)
    && (all (λ b. not (byte.forbidden b)) s
    && (not (contains (47 ∷ dot) (a ∷ s))
    && (not (contains dot_dot (a ∷ s))
    && (not (contains slash_slash (a ∷ s))
    && (not (contains at_brace (a ∷ s)) && (not (ends slash (a ∷ s)) && not (ends dot (a ∷ s)))))))))
apart byte slashed a [] = simp (and-true, and-false, or-false, and_assoc)
apart byte slashed a (b ∷ s) = rw (apart byte (slashed || eqb b 47) b s, join) (simp (and-true, and-false, or_assoc))

-- the rules in Git's order against their order in the pass; the lone `@` (o) is told by the slash (h)
settle : (d l h q f b e c z w o : Bool) → (h ≡ true → not o ≡ true)
    → (not d && (not l && (h && (not q && (f && (not (b || (e || c)) && (not z && (not w && not o))))))))
    ≡ ((h && (f && (not d && (not q && (not (b || c) && (not w && (not e && not z))))))) && not l)
settle d l false q f b e c z w o lone = simp and-false
settle d l true q f b e c z w o lone = simp (lone refl, not_or, and-true, and_assoc, and_comm, and_left_comm)

-- Behind a slash (47) the pass judges a whole name, so that what a component may not begin with is a pair like the others.
pub valid_pass : (byte : Classes) (s : List ℕ) → valid_name byte s ≡ (pass byte false 47 s && not (locked [] s))
unfolding valid_name
valid_pass byte [] = not_empty byte
valid_pass byte (b ∷ s) =
    let lone = lone_at_lem (b ∷ s) in
    rw (no_dots (b ∷ s), no_locks (b ∷ s), settle, apart byte false 47 (b ∷ s))
