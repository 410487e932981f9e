-- Written lines can be read: n digits, a space, a valid name and LF are the first line of a record; `^`, n digits and LF its second.
use mathlib.Core.Path.{◌≡◌, refl, sym, ap, ◌∙◌}
use mathlib.Core.Bool.{Bool, true, false, not}
use mathlib.Core.List.{List, [], ◌∷◌, ◌++◌}
use Prim.Native.Nat.{ℕ, suc, ◌+◌, ◌<◌}
use native.Mathlib.Omega.{arith}
use lib.ListN.{get_or, length, take, drop}
use lib.Seq.{drop-append-add, take-append_seam, drop-append_seam, get_or-drop, drop-drop, drop_at, get_or_at}
use Rattle.class.specs.Class.{paper, is_hex, is_line_end}
use Rattle.parse.specs.Run.{span}
use Rattle.parse.specs.Line.{eol, text_len}
use Rattle.name.specs.Name.{valid_name}
use Rattle.name.proofs.Laws.{valid_text}
use Rattle.decode.proofs.Records.{name_len, after_name, head_len, Head, peel_len, Peel}
use Rattle.merge.proofs.Entries.{Digits}

-- a run ends at the first byte that fails the test
span_all : (p : ℕ → Bool) (u : List ℕ) (b : ℕ) (r : List ℕ) → ((i : ℕ) → i < length u → p (get_or u i 0) ≡ true) → p b ≡ false
    → span p (u ++ b ∷ r) ≡ length u
span_all p [] b r all stop = rw stop
span_all p (c ∷ u) b r all stop = rw (all 0 (omega arith)) (ap suc (span_all p u b r (λ i h. all (suc i) (omega arith)) stop))

pub behind : (u : List ℕ) (b : ℕ) (r : List ℕ) (n : ℕ) → length u ≡ n → drop (suc n) (u ++ b ∷ r) ≡ r
behind u b r n h = let z : suc n ≡ length u + 1 = omega arith in rw z (drop-append-add u (b ∷ r) 1)

digits_span : {n : ℕ} {id : List ℕ} → Digits n id → (b : ℕ) (r : List ℕ) → is_hex b ≡ false → span is_hex (id ++ b ∷ r) ≡ n
digits_span {n} {id} d b r stop = span_all is_hex id b r (λ i h. d.hex i (omega (arith, d.long))) stop ∙ d.long

-- ---- the first line, and any bytes t behind it

abbrev pub line_then : List ℕ → List ℕ → List ℕ → List ℕ
line_then id name t = id ++ 32 ∷ (name ++ 10 ∷ t)

module _ {n : ℕ} {id : List ℕ} (digits : Digits n id) (name : List ℕ) (valid : valid_name paper name ≡ true) (t : List ℕ) where
  abbrev line : List ℕ
  line = line_then id name t

  behind_space : drop (suc n) line ≡ name ++ 10 ∷ t
  behind_space = behind id 32 (name ++ 10 ∷ t) n digits.long

  pub name_len_lem : name_len paper n line ≡ length name
  unfolding is_line_end
  name_len_lem =
      ap (text_len paper) behind_space
      ∙ span_all (λ b. not (is_line_end b)) name 10 t (λ i h. ap not (valid_text name valid i h)) refl

  name_here_lem : take (name_len paper n line) (drop (suc n) line) ≡ name
  name_here_lem = rw (name_len_lem, behind_space) (take-append_seam name (10 ∷ t))

  after_name_lem : after_name paper n line ≡ 10 ∷ t
  after_name_lem = rw (name_len_lem, behind_space) (drop-append_seam name (10 ∷ t))

  one_end : eol (after_name paper n line) ≡ 1
  unfolding eol
  one_end = rw after_name_lem

  pub line_head : Head paper n line
  unfolding is_hex
  line_head =
      record {
        id = omega (arith, digits_span digits 32 (name ++ 10 ∷ t) refl);
        space = get_or_at id 32 (name ++ 10 ∷ t) 0 n digits.long;
        name = ap (valid_name paper) name_here_lem ∙ valid;
        end = omega (arith, one_end);
      }

  pub head_len_lem : head_len paper n line ≡ suc n + length name + 1
  unfolding head_len
  head_len_lem = omega (arith, name_len_lem, one_end)

  pub behind_head : drop (head_len paper n line) line ≡ t
  behind_head =
      let z : head_len paper n line ≡ suc n + suc (length name) = omega (arith, head_len_lem) in
      rw z (sym (drop-drop (suc (length name)) (suc n) line) ∙ ap (drop (suc (length name))) behind_space ∙ behind name 10 t (length name) refl)

  pub byte_behind : get_or line (head_len paper n line) 0 ≡ get_or t 0 0
  byte_behind =
      let z : head_len paper n line ≡ head_len paper n line + 0 = omega arith in
      rw z (sym (get_or-drop (head_len paper n line) line 0 0) ∙ ap (λ (s : List ℕ). get_or s 0 0) behind_head)

-- ---- the second line, and any bytes t behind it

module _ {n : ℕ} {id : List ℕ} (digits : Digits n id) (t : List ℕ) where
  abbrev second : List ℕ
  second = 94 ∷ (id ++ 10 ∷ t)

  lf : eol (drop (suc n) second) ≡ 1
  unfolding eol
  lf = let z : drop n (id ++ 10 ∷ t) ≡ 10 ∷ t = drop_at id (10 ∷ t) n digits.long in ap eol z

  pub line_peel : Peel paper n second
  unfolding is_hex
  line_peel = record { id = omega (arith, digits_span digits 10 t refl); end = omega (arith, lf) }

  pub peel_len_lem : peel_len paper n second ≡ suc n + 1
  unfolding peel_len
  peel_len_lem = omega (arith, lf)
