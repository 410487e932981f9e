-- An edit list from a place on, by the edit that stands there.
use mathlib.Core.Path.{◌≡◌, refl}
use mathlib.Core.List.{List, []}
use Prim.Native.Nat.{ℕ, zero, suc, ◌+◌, ◌≤◌, ◌<◌}
use native.Mathlib.Omega.{arith}
use lib.ListN.{length, drop}
use borrow.Author.Tests.{lt-ltb, le-ltb}
use Rattle.class.specs.Class.{Classes}
use Rattle.edit.specs.declared.EditFault.{EditFault}
use Rattle.edit.specs.Edit.{edit_of}
use Rattle.edits.specs.declared.list.ListFault.TheVariants.{BadEdit, TooMany}
use Rattle.edits.specs.List.{Listed, all, bad, with_place, edits_from, counted}
use Rattle.std.specs.Result.{MatchResult, IsErrAnd}
use Rattle.std.specs.declared.result.Result.{Result}
use Rattle.std.specs.declared.result.Result.TheVariants.{Err, Ok}
use Rattle.edits.specs.declared.list.ListFault.{ListFault}

-- ---- turns

module _ (byte : Classes) (n : ℕ) (list : List ℕ) (place : ℕ) where
  pub from_end : (turns : ℕ) → length list ≤ place → edits_from byte n list turns place ≡ all []
  unfolding edits_from
  from_end zero h = rw (le-ltb place (length list) h)
  from_end (suc turns) h = rw (le-ltb place (length list) h)

  module _ (inside : place < length list) where
    pub from_many : edits_from byte n list 0 place ≡ bad (TooMany place)
    unfolding edits_from
    from_many = rw (lt-ltb place (length list) inside)

    module _ (turns : ℕ) where
      pub from_bad : {f : EditFault} → edit_of byte n (drop place list) ≡ Err f → edits_from byte n list (suc turns) place ≡ bad (BadEdit place f)
      unfolding edits_from
      from_bad e = rw (lt-ltb place (length list) inside, e)

      pub from_good : (size : ℕ) → edit_of byte n (drop place list) ≡ Ok size
          → edits_from byte n list (suc turns) place ≡ with_place place (edits_from byte n list turns (place + size))
      unfolding edits_from
      from_good size e = rw (lt-ltb place (length list) inside, e)

-- ---- counting

pub counted_onto : (k place : ℕ) (l : Listed) → counted k (with_place place l) ≡ counted (k + 1) l
counted_onto k place (all l) = let z : k + suc (length l) ≡ k + 1 + length l = omega arith in rw z
counted_onto k place (bad why) = refl

-- ---- an edit that is read, or whose fault is told with its place

-- what `map_err` says of an edit that was read
pub read_well : (r : Result ℕ EditFault) (told : Result ℕ ListFault) {size : ℕ} (P : EditFault → ListFault → Type 0)
    → MatchResult r (λ x. told ≡ Ok x) (λ f. IsErrAnd told (P f)) → told ≡ Ok size → r ≡ Ok size
read_well (Ok x) told P m is = cc
read_well (Err f) (Ok x) P m is = absurd m
read_well (Err f) (Err why) P m is = cc

-- and of one that can't be taken
pub read_badly : (r : Result ℕ EditFault) (told : Result ℕ ListFault) (place : ℕ) {why : ListFault} (P : EditFault → ListFault → Type 0)
    → ((f : EditFault) (w : ListFault) → P f w → w ≡ BadEdit place f)
    → MatchResult r (λ x. told ≡ Ok x) (λ f. IsErrAnd told (P f)) → told ≡ Err why → (f : EditFault) × (r ≡ Err f) × (why ≡ BadEdit place f)
read_badly (Ok x) told place P p m is = cc
read_badly (Err f) (Ok x) place P p m is = absurd m
read_badly (Err f) (Err why) place P p m is = (f, refl, cc (p f why m))
