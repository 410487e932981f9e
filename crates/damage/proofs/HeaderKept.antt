-- A header is determined by its bytes: with others behind it, it says the same, and reading starts at the same place with the same number.
use mathlib.Core.Path.{◌≡◌, refl, ap, ◌∙◌}
use mathlib.Core.Bool.{true, and-eq-true_iff}
use mathlib.Core.List.{List, [], ◌∷◌, ◌++◌}
use Prim.Native.Nat.{ℕ, ◌-◌, ◌≤◌}
use native.Mathlib.Omega.{arith}
use lib.Dec.{eqb}
use lib.ListN.{get_or, length, take, drop, length-drop}
use lib.Seq.{drop-append-le, take-append-le}
use borrow.Author.Tests.{eq-eqb, ne_eqb}
use Rattle.class.specs.Class.{Classes}
use Rattle.parse.specs.Line.{text_at, text_ends}
use Rattle.compare.specs.Prefix.{begins}
use Rattle.parse.proofs.Fronts.{same_at}
use Rattle.header.specs.declared.Header.{Header}
use Rattle.header.specs.Header.{mark, tokens, all_noted, plain_header, header_of}
use Rattle.header.proofs.Headers.{no_hash, header_read, all_noted_body, HeaderView, none, unreadable, some, header_view}
use Rattle.start.specs.Start.{start_line, start_of}
use Rattle.damage.proofs.TextKept.{ends, text_local}
use Rattle.std.specs.declared.result.Result.TheVariants.{Ok}

begins_local : (w u r r' : List ℕ) → length w ≤ length u → begins w (u ++ r) ≡ true → begins w (u ++ r') ≡ true
begins_local [] u r r' l h = refl
begins_local (a ∷ w) [] r r' l h = absurd (omega arith)
begins_local (a ∷ w) (b ∷ u) r r' l h =
    let q = (and-eq-true_iff (eqb b a) (begins w (u ++ r))).0 h in
    (and-eq-true_iff (eqb b a) (begins w (u ++ r'))).1 (q.0, begins_local w u r r' (omega arith) q.1)

empty : (u : List ℕ) → length u ≡ 0 → u ≡ []
empty [] h = refl
empty (b ∷ u) h = absurd (omega arith)

-- a header h before the bytes b; then other bytes b', which must not make one where there was none
module _
    (byte : Classes)
    (h b b' : List ℕ)
    (head : Header)
    (reads : header_of byte (h ++ b) ≡ Ok head)
    (behind : head.body ≡ length h)
    (hash : h ≡ [] → get_or (h ++ b') 0 0 ≡ 35 → ⊥)
  where
    kept : (header_of byte (h ++ b') ≡ Ok head) × (start_line (h ++ b') ≡ start_line (h ++ b))
    unfolding start_line
    kept = go (header_view byte (h ++ b))
      where
        go : HeaderView byte (h ++ b) → (header_of byte (h ++ b') ≡ Ok head) × (start_line (h ++ b') ≡ start_line (h ++ b))
        go (none c f) =
            let e : head ≡ plain_header 0 = cc in
            let z : head.body ≡ 0 = ap (λ (x : Header). x.body) e in
            let c' = hash (empty h (omega arith)) in
            (rw e (no_hash byte (h ++ b') c'), rw (ne_eqb _ _ c, ne_eqb _ _ c'))
        go (unreadable c f) = absurd (let z : ◌≡◌ {A = ℕ} 0 1 = cc in omega arith)
        go (some c m {end} {next} t f) =
            let e : head ≡ all_noted (tokens (take (end - 18) (drop 18 (h ++ b)))) (plain_header next) = cc in
            let z : head.body ≡ next = ap (λ (x : Header). x.body) e ∙ all_noted_body (tokens (take (end - 18) (drop 18 (h ++ b)))) (plain_header next) in
            let k = ends byte 18 (h ++ b) t in
            let lv : length (drop 18 h) ≡ length h - 18 = length-drop 18 h in
            let c' : get_or (h ++ b') 0 0 ≡ 35 = same_at h b b' 0 (omega arith) ∙ c in
            let m' : begins mark (h ++ b') ≡ true = begins_local mark h b b' (omega arith) m in
            let t' : text_at byte (h ++ b') 18 ≡ text_ends end next = text_local byte 18 h b b' t (omega arith) in
            let words : (x : List ℕ) → take (end - 18) (drop 18 (h ++ x)) ≡ take (end - 18) (drop 18 h) =
            λ x. ap (take (end - 18)) (drop-append-le 18 h x (omega arith)) ∙ take-append-le (end - 18) (drop 18 h) x (omega arith) in
            (header_read byte (h ++ b') c' m' t' ∙ rw (words b', e, words b), rw (eq-eqb _ _ c, eq-eqb _ _ c'))

    pub header_kept : header_of byte (h ++ b') ≡ Ok head
    header_kept = kept.0

    pub number_kept : start_line (h ++ b') ≡ start_line (h ++ b)
    number_kept = kept.1

    pub start_kept : start_of byte (h ++ b') ≡ start_of byte (h ++ b)
    unfolding start_of
    start_kept = rw (header_kept, reads, kept.1)
