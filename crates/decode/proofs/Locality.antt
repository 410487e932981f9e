-- A good record is determined by its own bytes and the byte behind them; its lines are lines.
use mathlib.Core.Path.{◌≡◌, sym, ap, ◌∙◌}
use mathlib.Core.Bool.{not}
use mathlib.Core.List.{List, ◌∷◌, ◌++◌}
use Prim.Native.Nat.{ℕ, suc, ◌+◌, ◌-◌, ◌≤◌, ◌<◌}
use native.Mathlib.Omega.{arith}
use lib.ListN.{get_or, length, take, drop, length-drop}
use lib.Seq.{drop-append-le, take-append-le}
use Rattle.class.specs.Class.{Classes, paper, is_hex, is_line_end}
use Rattle.parse.specs.Line.{eol, line_len, text_len}
use Rattle.parse.proofs.Fronts.{at_drop, same_at, span_local, span_ge, line_len_skip, eol_local, eol_line, hex_no10, text_no10}
use Rattle.decode.specs.declared.reference.Record.{Record}
use Rattle.decode.specs.Record.{record_of}
use Rattle.decode.proofs.Records.{name_len, after_name, head_len, Head, peel_len, Peel, View, is_bad_lem, plain, peeled, view, plain_is, peeled_is}
use Rattle.std.specs.declared.option.Option.TheVariants.{None, Some}
use Rattle.std.specs.declared.result.Result.TheVariants.{Ok}

-- text and its line end are determined by their bytes
module _ (byte : Classes) (v r r' : List ℕ)
    (some : 0 < eol (drop (text_len byte (v ++ r)) (v ++ r)))
    (fits : text_len byte (v ++ r) + eol (drop (text_len byte (v ++ r)) (v ++ r)) ≤ length v)
  where
    abbrev t : ℕ
    t = text_len byte (v ++ r)

    pub text_span : text_len byte (v ++ r') ≡ t
    text_span = span_local (λ b. not (byte.line_end b)) v r r' (omega arith)

    pub text_end_lem : eol (drop t (v ++ r')) ≡ eol (drop t (v ++ r))
    text_end_lem =
        let lv : length (drop t v) ≡ length v - t = length-drop t v in
        let d : drop t (v ++ r) ≡ drop t v ++ r = drop-append-le t v r (omega arith) in
        let d' : drop t (v ++ r') ≡ drop t v ++ r' = drop-append-le t v r' (omega arith) in
        let e : eol (drop t (v ++ r)) ≡ eol (drop t v ++ r) = ap eol d in
        rw (d, d') (eol_local (drop t v) r r' (omega arith) (omega arith))

    pub text_name : take t (v ++ r') ≡ take t (v ++ r)
    text_name = take-append-le t v r' (omega arith) ∙ sym (take-append-le t v r (omega arith))

module _ (byte : Classes) (n : ℕ) where
  pub head_local : (u r r' : List ℕ) → Head byte n (u ++ r) → head_len byte n (u ++ r) ≤ length u
      → Head byte n (u ++ r') × (name_len byte n (u ++ r') ≡ name_len byte n (u ++ r)) × (head_len byte n (u ++ r') ≡ head_len byte n (u ++ r))
  unfolding head_len
  head_local u r r' h l =
      let v = drop (suc n) u in
      let long : suc n ≤ length u = omega (arith, h.end) in
      let lv : length v ≡ length u - suc n = length-drop (suc n) u in
      let d : drop (suc n) (u ++ r) ≡ v ++ r = drop-append-le (suc n) u r long in
      let d' : drop (suc n) (u ++ r') ≡ v ++ r' = drop-append-le (suc n) u r' long in
      let some : 0 < eol (drop (text_len byte (v ++ r)) (v ++ r)) = rw d at h.end in
      let all : suc n + name_len byte n (u ++ r) + eol (after_name byte n (u ++ r)) ≤ length u = l in
      let fits : suc n + text_len byte (v ++ r) + eol (drop (text_len byte (v ++ r)) (v ++ r)) ≤ length u = rw d at all in
      let sp : name_len byte n (u ++ r') ≡ name_len byte n (u ++ r) = rw (d, d') (text_span byte v r r' some (omega arith)) in
      let e : eol (after_name byte n (u ++ r')) ≡ eol (after_name byte n (u ++ r)) = rw (sp, d, d') (text_end_lem byte v r r' some (omega arith)) in (
        record {
          id = span_ge byte.hex n u r r' (omega arith) h.id;
          space = same_at u r r' n (omega arith) ∙ h.space;
          name = rw (sp, d, d', text_name byte v r r' some (omega arith)) (rw d at h.name);
          end = omega (arith, h.end);
        },
        sp,
        omega arith,
      )

  pub peel_local : (u r r' : List ℕ) → Peel byte n (u ++ r) → peel_len byte n (u ++ r) ≤ length u
      → Peel byte n (u ++ r') × (peel_len byte n (u ++ r') ≡ peel_len byte n (u ++ r))
  unfolding peel_len
  peel_local u r r' h l =
      let v = drop (suc n) u in
      let long : suc n ≤ length u = omega (arith, h.end) in
      let lv : length v ≡ length u - suc n = length-drop (suc n) u in
      let l1 : length (drop 1 u) ≡ length u - 1 = length-drop 1 u in
      let d : drop (suc n) (u ++ r) ≡ v ++ r = drop-append-le (suc n) u r long in
      let d' : drop (suc n) (u ++ r') ≡ v ++ r' = drop-append-le (suc n) u r' long in
      let c : drop 1 (u ++ r) ≡ drop 1 u ++ r = drop-append-le 1 u r (omega arith) in
      let c' : drop 1 (u ++ r') ≡ drop 1 u ++ r' = drop-append-le 1 u r' (omega arith) in
      let e : eol (drop (suc n) (u ++ r)) ≡ eol (v ++ r) = ap eol d in
      let end : eol (drop (suc n) (u ++ r')) ≡ eol (drop (suc n) (u ++ r)) = rw (d, d') (eol_local v r r' (omega (arith, h.end)) (omega arith)) in
      (record { id = rw c' (span_ge byte.hex n (drop 1 u) r r' (omega arith) (rw c at h.id)); end = omega (arith, h.end) }, omega arith)

  pub record_local : (u r r' : List ℕ) (found : Record) → record_of byte n (u ++ r) ≡ Ok found → found.size < length u → record_of byte n (u ++ r') ≡ Ok found
  record_local u r r' found g l = go (view byte n (u ++ r))
    where
      go : View byte n (u ++ r) → record_of byte n (u ++ r') ≡ Ok found
      go (is_bad_lem f w e) = cc
      go (plain h c e) =
          let w : found ≡ record { name_len = name_len byte n (u ++ r); peeled = None; size = head_len byte n (u ++ r) } = cc in
          let q : head_len byte n (u ++ r) ≡ found.size = sym (ap (λ (x : Record). x.size) w) in
          let (h', nm, hl) = head_local u r r' h (omega arith) in
          let at : get_or (u ++ r') (head_len byte n (u ++ r')) 0 ≡ get_or (u ++ r) (head_len byte n (u ++ r)) 0 = rw hl (same_at u r r' (head_len byte n (u ++ r)) (omega arith)) in
          plain_is byte n (u ++ r') h' (λ z. c (sym at ∙ z)) ∙ rw (nm, hl, w)
      go (peeled h c p e) =
          let w : found ≡ record { name_len = name_len byte n (u ++ r); peeled = Some (suc (head_len byte n (u ++ r))); size = head_len byte n (u ++ r) + peel_len byte n (drop (head_len byte n (u ++ r)) (u ++ r)) } = cc in
          let q : head_len byte n (u ++ r) + peel_len byte n (drop (head_len byte n (u ++ r)) (u ++ r)) ≡ found.size = sym (ap (λ (x : Record). x.size) w) in
          let (h', nm, hl) = head_local u r r' h (omega arith) in
          let j = head_len byte n (u ++ r) in
          let lj : length (drop j u) ≡ length u - j = length-drop j u in
          let d : drop j (u ++ r) ≡ drop j u ++ r = drop-append-le j u r (omega arith) in
          let d' : drop j (u ++ r') ≡ drop j u ++ r' = drop-append-le j u r' (omega arith) in
          let pl : peel_len byte n (drop j (u ++ r)) ≡ peel_len byte n (drop j u ++ r) = ap (peel_len byte n) d in
          let (p', ql) = peel_local (drop j u) r r' (rw d at p) (omega arith) in
          let at : get_or (u ++ r') (head_len byte n (u ++ r')) 0 ≡ 94 = rw hl (same_at u r r' j (omega arith) ∙ c) in
          let p'' : Peel byte n (drop (head_len byte n (u ++ r')) (u ++ r')) = rw (hl, d') p' in
          peeled_is byte n (u ++ r') h' at p'' ∙ rw (nm, hl, d', ql, ← pl, w)

-- ---- with the paper's classes, the lines of a record are lines: no hex digit and no text holds a line feed

module _ (n : ℕ) where
  pub head_line : (s : List ℕ) → Head paper n s → head_len paper n s ≡ line_len s
  unfolding head_len
  head_line s h =
      let t = name_len paper n s in
      let l : line_len s ≡ n + line_len (drop n s) = line_len_skip is_hex hex_no10 n s h.id in
      let c : drop n s ≡ 32 ∷ drop (suc n) s = at_drop 32 (omega arith) n s h.space in
      let d : line_len (drop n s) ≡ suc (line_len (drop (suc n) s)) = rw c in
      let m : line_len (drop (suc n) s) ≡ t + line_len (after_name paper n s) = line_len_skip (λ b. not (is_line_end b)) text_no10 t (drop (suc n) s) (omega arith) in
      omega (arith, eol_line (after_name paper n s) h.end)

  pub peel_line_lem : (s : List ℕ) → get_or s 0 0 ≡ 94 → Peel paper n s → peel_len paper n s ≡ line_len s
  unfolding peel_len
  peel_line_lem s c h =
      let d : s ≡ 94 ∷ drop 1 s = at_drop 94 (omega arith) 0 s c in
      let l : line_len s ≡ suc (line_len (drop 1 s)) = ap line_len d in
      let m : line_len (drop 1 s) ≡ n + line_len (drop n (drop 1 s)) = line_len_skip is_hex hex_no10 n (drop 1 s) h.id in
      let q : drop n (drop 1 s) ≡ drop (suc n) s = ap (drop n) (ap (drop 1) d) ∙ sym (ap (drop (suc n)) d) in
      let e : line_len (drop (suc n) s) ≡ eol (drop (suc n) s) = eol_line (drop (suc n) s) h.end in
      let f : line_len (drop n (drop 1 s)) ≡ line_len (drop (suc n) s) = ap line_len q in
      omega arith
