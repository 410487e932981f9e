-- An iteration starts inside the file.
use mathlib.Core.Path.{◌≡◌, refl, ap}
use mathlib.Core.List.{List}
use Prim.Native.Nat.{ℕ, ◌≤◌}
use native.Mathlib.Omega.{arith}
use lib.ListN.{length}
use Rattle.class.specs.Class.{Classes}
use Rattle.header.specs.Header.{header_of, headed}
use Rattle.header.proofs.Headers.{body_inside}
use Rattle.start.specs.Start.{start_line, start_of, starts_at}
use Rattle.std.specs.declared.result.Result.{Result}
use Rattle.std.specs.declared.result.Result.TheVariants.{Ok, Err}
use Rattle.header.specs.declared.BadHeader.{BadHeader}
use Rattle.header.specs.declared.Header.{Header}
use Rattle.start.specs.declared.Start.{Start}

pub start_inside : (byte : Classes) (s : List ℕ) {place line : ℕ} → start_of byte s ≡ starts_at place line → place ≤ length s
unfolding start_of
start_inside byte s {place} {line} e = go (header_of byte s) refl e
  where
    place_of : Result Start BadHeader → ℕ
    place_of (Ok start) = start.place
    place_of (Err bad) = 0

    go : (o : Result Header BadHeader) → header_of byte s ≡ o → headed o (λ h. starts_at h.body (start_line s)) (λ text. Err (record { text = text })) ≡ starts_at place line → place ≤ length s
    go (Ok h) q f = let z : h.body ≡ place = ap place_of f in omega (arith, body_inside byte s h q)
    go (Err bad) q f = absurd (let z : ◌≡◌ {A = ℕ} 0 1 = cc in omega arith)
