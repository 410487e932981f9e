-- What is known once 1 and 17 are not given.
use mathlib.Core.Path.{◌≡◌, refl}
use mathlib.Core.Bool.{Bool, true, false, ◌||◌}
use Prim.Native.Nat.{ℕ, ◌≤◌}
use native.Mathlib.Omega.{arith}
use lib.Dec.{eqb}
use borrow.Author.Tests.{ltb-false}
use Rattle.std.specs.Result.{IsErrAnd}
use Rattle.std.proofs.lemmas.Result.{err_from_is_err_and}
use Rattle.parse.specs.Choice.{if}
use Rattle.parse.specs.Limit.{digits_of, over_limit, admission_by, admission, admit}
use Rattle.std.specs.declared.option.Option.{Option}
use Rattle.std.specs.declared.option.Option.TheVariants.{None, Some}
use Rattle.std.specs.declared.result.Result.{Result}
use Rattle.std.specs.declared.result.Result.TheVariants.{Err, Ok}
use Rattle.parse.specs.declared.limit.NotAdmitted.{NotAdmitted}
use Rattle.parse.specs.declared.limit.NotAdmitted.TheVariants.{TooLarge, UnknownKind}

-- an id has few digits
pub few_digits : (kind n : ℕ) → digits_of kind ≡ Some n → n ≤ 64
unfolding digits_of
few_digits kind n e = go (eqb kind 1) (eqb kind 2) e
  where
    go : (a b : Bool) → if a (Some 40) (if b (Some 64) None) ≡ Some n → n ≤ 64
    go true b q = let z : 40 ≡ n = cc in omega arith
    go false true q = let z : 64 ≡ n = cc in omega arith
    go false false q = absurd (let z : ◌≡◌ {A = ℕ} 0 1 = cc in omega arith)

within : (size : ℕ) → over_limit size ≡ false → size ≤ 1073741824
unfolding over_limit
within size e = omega (arith, ltb-false 1073741824 size e)

-- the kind has these digits, and both sizes are within the limit
pub asked : (kind size other n : ℕ) → admission kind size other ≡ Ok n
    → (digits_of kind ≡ Some n) × (over_limit size ≡ false) × (over_limit other ≡ false)
unfolding admission
asked kind size other n e = by_kind (digits_of kind) refl e
  where
    by_size : (a b : Bool) (m : ℕ) → over_limit size ≡ a → over_limit other ≡ b → digits_of kind ≡ Some m → if (a || b) (Err TooLarge) (Ok m) ≡ Ok n
        → (digits_of kind ≡ Some n) × (over_limit size ≡ false) × (over_limit other ≡ false)
    by_size true b m p q d e = absurd (let z : ◌≡◌ {A = ℕ} 0 1 = cc in omega arith)
    by_size false true m p q d e = absurd (let z : ◌≡◌ {A = ℕ} 0 1 = cc in omega arith)
    by_size false false m p q d e = let z : m ≡ n = cc in (rw z at d, p, q)

    by_kind : (k : Option ℕ) → digits_of kind ≡ k → admission_by k size other ≡ Ok n
        → (digits_of kind ≡ Some n) × (over_limit size ≡ false) × (over_limit other ≡ false)
    by_kind (Some m) d e = by_size (over_limit size) (over_limit other) m refl refl d e
    by_kind None d e = absurd (let z : ◌≡◌ {A = ℕ} 0 1 = cc in omega arith)

pub admitted : (kind size other n : ℕ) → admission kind size other ≡ Ok n → (n ≤ 64) × (size ≤ 1073741824) × (other ≤ 1073741824)
admitted kind size other n e =
    let (d, p, q) = asked kind size other n e in
    (few_digits kind n d, within size p, within other q)

-- and the other way: a kind that has digits, and two sizes within the limit
pub admits : (kind size other : ℕ) {n : ℕ} → digits_of kind ≡ Some n → over_limit size ≡ false → over_limit other ≡ false
    → admission kind size other ≡ Ok n
unfolding admission
admits kind size other d p q = rw (d, p, q)

-- an answer other than the two refusals comes of the digits
pub through : {A : Type 0} (kind size other : ℕ) (f : ℕ → A) {unknown large which : A} → admit (admission kind size other) f unknown large ≡ which
    → (unknown ≡ which → ⊥) → (large ≡ which → ⊥) → (n : ℕ) × (admission kind size other ≡ Ok n) × (f n ≡ which)
through {A} kind size other f {unknown} {large} {which} e u l = go (admission kind size other) refl
  where
    go : (a : Result ℕ NotAdmitted) → admission kind size other ≡ a → (n : ℕ) × (admission kind size other ≡ Ok n) × (f n ≡ which)
    go (Ok n) q = (n, q, rw q at e)
    go (Err UnknownKind) q = absurd (u (rw q at e))
    go (Err TooLarge) q = absurd (l (rw q at e))

-- a `?` behind `admit` hands a refusal on as it is
pub refused : {A : Type 0} (f : ℕ → Result A NotAdmitted) (a : Result ℕ NotAdmitted) (r : Result A NotAdmitted) {why : NotAdmitted}
    → a ≡ Err why → IsErrAnd r (λ e. e ≡ why) → r ≡ admit a f (Err UnknownKind) (Err TooLarge)
refused f a r {why} e was =
    let p = err_from_is_err_and r was in
    rw (p.1, p.2, e) (go why)
  where
    go : (w : NotAdmitted) → Err w ≡ admit (Err w) f (Err UnknownKind) (Err TooLarge)
    go UnknownKind = refl
    go TooLarge = refl
