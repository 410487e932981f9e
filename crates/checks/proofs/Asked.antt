-- What the answers of check and header say of a file: behind them stand the check's verdict and the header.
use mathlib.Core.Path.{◌≡◌, refl}
use mathlib.Core.Bool.{Bool, true, false}
use mathlib.Core.List.{List}
use Prim.Native.Nat.{ℕ, ◌<◌}
use native.Mathlib.Omega.{arith}
use lib.Dec.{eqb}
use lib.ListN.{length}
use Rattle.class.specs.Class.{paper}
use Rattle.parse.specs.Choice.{if}
use Rattle.parse.specs.Limit.{digits_of, over_limit}
use Rattle.parse.proofs.Admitted.{asked, through}
use Rattle.header.specs.declared.BadHeader.{BadHeader}
use Rattle.header.specs.declared.Header.{Header}
use Rattle.parse.specs.declared.limit.TooLarge.{TooLarge}
use Rattle.header.specs.Header.{header_of, header_answer}
use Rattle.checks.specs.Check.{check_of, check_answer}
use Rattle.std.specs.declared.option.Option.TheVariants.{None, Some}
use Rattle.std.specs.declared.result.Result.{Result}
use Rattle.std.specs.declared.result.Result.TheVariants.{Err, Ok}

pub passed : (kind n : ℕ) → digits_of kind ≡ Some n → (file : List ℕ) (count : ℕ) → check_answer kind file ≡ Ok (Ok count)
    → (check_of paper n file ≡ Ok count) × (over_limit (length file) ≡ false)
unfolding check_answer
passed kind n d file count e =
    let (m, q, f) =
    through kind (length file) 0 (λ k. Ok (check_of paper k file)) e (λ z. let x : ◌≡◌ {A = ℕ} 0 1 = cc in omega arith) (λ z. let x : ◌≡◌ {A = ℕ} 0 1 = cc in omega arith) in
    let (k, small, _) = asked kind (length file) 0 m q in
    let same : m ≡ n = cc in
    let v : check_of paper m file ≡ Ok count = cc in
    (rw same at v, small)

pub opened_as : (file : List ℕ) (h : Header) → header_answer file ≡ Ok (Ok h) → header_of paper file ≡ Ok h
unfolding header_answer
opened_as file h e = go (over_limit (length file)) refl e
  where
    go : (b : Bool) → over_limit (length file) ≡ b → if {A = Result (Result Header BadHeader) TooLarge} b (Err (record {})) (Ok (header_of paper file)) ≡ Ok (Ok h)
        → header_of paper file ≡ Ok h
    go true b x = absurd (let z : ◌≡◌ {A = ℕ} 0 1 = cc in omega arith)
    go false b x = cc

pub some_digits : (kind n : ℕ) → digits_of kind ≡ Some n → 0 < n
unfolding digits_of
some_digits kind n e = go (eqb kind 1) (eqb kind 2) e
  where
    go : (a b : Bool) → if a (Some 40) (if b (Some 64) None) ≡ Some n → 0 < n
    go true b q = let z : 40 ≡ n = cc in omega arith
    go false true q = let z : 64 ≡ n = cc in omega arith
    go false false q = absurd (let z : ◌≡◌ {A = ℕ} 0 1 = cc in omega arith)
