-- The items begin on the line that the start says: a header is one line.
use mathlib.Core.Path.{◌≡◌, refl, sym, ap, ◌∙◌}
use mathlib.Core.Bool.{true, not, and-eq-true_iff}
use mathlib.Core.List.{List, [], ◌∷◌, ◌++◌}
use Prim.Native.Nat.{ℕ, suc, ◌+◌, ◌-◌, ◌<◌}
use native.Mathlib.Omega.{arith}
use lib.Dec.{eqb}
use lib.ListN.{get_or, length, take, drop}
use lib.Seq.{drop-drop}
use borrow.Author.Tests.{eq-eqb, ne_eqb, eqb-true}
use Rattle.class.specs.Class.{paper, is_line_end}
use Rattle.compare.specs.Prefix.{begins}
use Rattle.parse.specs.Line.{eol, line_len, text_len, text_at, text_ends}
use Rattle.parse.proofs.Fronts.{line_len_skip, eol_line, text_no10}
use Rattle.parse.proofs.Lines.{text_next_same}
use Rattle.parse.proofs.Views.{text_end, TextView, text, no_text, text_view}
use Rattle.header.specs.declared.Header.{Header}
use Rattle.header.specs.Header.{mark, tokens, plain_header, header_of}
use Rattle.header.proofs.Headers.{all_noted_body, HeaderView, none, unreadable, some, header_view}
use Rattle.line_number.specs.LineNumber.{line_number}
use Rattle.line_number.proofs.Feeds.{ended_line, eol_last}
use Rattle.start.specs.Start.{start_line, StartsTrue}
use Rattle.std.specs.declared.result.Result.{Result}
use Rattle.std.specs.declared.result.Result.TheVariants.{Ok, Err}
use Rattle.header.specs.declared.BadHeader.{BadHeader}

-- bytes that begin with others are those and the rest
front : (w s : List ℕ) → begins w s ≡ true → s ≡ w ++ drop (length w) s
front [] s h = refl
front (a ∷ w) [] h = absurd (let z : ◌≡◌ {A = ℕ} 0 1 = cc in omega arith)
front (a ∷ w) (b ∷ s) h =
    let both = (and-eq-true_iff (eqb b a) (begins w s)).0 h in
    let first : b ≡ a = eqb-true b a both.0 in
    let rest : s ≡ w ++ drop (length w) s = front w s both.1 in
    rw first (ap (λ (l : List ℕ). a ∷ l) rest)

-- a header is one line, which ends in a line feed: the mark has none, and the text behind it has none
module _ (s : List ℕ) (mark-first : begins mark s ≡ true) where
  -- where the text ends
  abbrev end : ℕ
  end = text_end paper s 18

  header_line_lem : 0 < eol (drop end s) → end + eol (drop end s) ≡ line_len s
  header_line_lem ended =
      let t = text_len paper (drop 18 s) in
      let m : line_len s ≡ line_len (mark ++ drop 18 s) = ap line_len (front mark s mark-first) in
      let l : line_len (drop 18 s) ≡ t + line_len (drop t (drop 18 s)) = line_len_skip (λ b. not (is_line_end b)) text_no10 t (drop 18 s) (omega arith) in
      let d : line_len (drop t (drop 18 s)) ≡ line_len (drop end s) = ap line_len (drop-drop t 18 s) in
      omega (arith, eol_line (drop end s) ended)

  second_line_lem : 0 < eol (drop end s) → line_number s (end + eol (drop end s)) ≡ 2
  unfolding line_number
  second_line_lem ended =
      let i = end + eol (drop end s) - 1 in
      let l : end + eol (drop end s) ≡ line_len s = header_line_lem ended in
      rw l (ap suc (ended_line s i (omega arith) (eol_last s end i ended (omega arith))))

pub starts_true : (s : List ℕ) → StartsTrue s
unfolding start_line line_number
starts_true s = record { line = λ h e. go h e (header_view paper s) }
  where
    behind : (h : Header) {end next : ℕ} → begins mark s ≡ true → text_at paper s 18 ≡ text_ends end next → h.body ≡ next → TextView paper s 18 → line_number s h.body ≡ 2
    behind h m t z (no_text w f) = absurd (let x : ◌≡◌ {A = ℕ} 0 1 = cc in omega arith)
    behind h {end = last} {next} m t z (text w f) =
        let q : end s m + eol (drop (end s m) s) ≡ h.body = text_next_same (sym f ∙ t) ∙ sym z in
        rw q at (second_line_lem s m w)

    go : (h : Header) → header_of paper s ≡ Ok h → HeaderView paper s → start_line s ≡ line_number s h.body
    go h e (none x f) = let z : h ≡ plain_header 0 = cc in rw (z, ne_eqb (get_or s 0 0) 35 x)
    go h e (unreadable x f) = absurd (let z : ◌≡◌ {A = ℕ} 0 1 = cc in omega arith)
    go h e (some x m {end} {next} t f) =
        let z : h.body ≡ next = ap body_of (sym e ∙ f) ∙ all_noted_body (tokens (take (end - 18) (drop 18 s))) (plain_header next) in
        rw (eq-eqb (get_or s 0 0) 35 x) (sym (behind h m t z (text_view paper s 18)))
      where
        body_of : Result Header BadHeader → ℕ
        body_of (Ok k) = k.body
        body_of (Err bad) = 0
