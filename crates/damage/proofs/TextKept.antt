-- A text and its line end are determined by their bytes.
use mathlib.Core.Path.{◌≡◌, sym, ap, ◌∙◌}
use mathlib.Core.List.{List, ◌++◌}
use Prim.Native.Nat.{ℕ, ◌+◌, ◌≤◌, ◌<◌}
use native.Mathlib.Omega.{arith}
use lib.ListN.{length, drop, length-drop}
use lib.Seq.{drop-append-le, drop-drop}
use Rattle.class.specs.Class.{Classes}
use Rattle.parse.specs.Line.{eol, text_len, text_at, text_ends}
use Rattle.parse.proofs.Lines.{text_end_same, text_next_same}
use Rattle.parse.proofs.Views.{text_end, TextView, text, no_text, text_view}
use Rattle.decode.proofs.Locality.{text_span, text_end_lem}

module _ (byte : Classes) (at : ℕ) where
  -- the line end behind the text at the front of s
  abbrev ending : List ℕ → ℕ
  ending s = eol (drop (text_len byte s) s)

  -- at a place stands s: a text to end, and its line end to next
  pub record Ends (s : List ℕ) (end next : ℕ) : Type 0 where
    pub to : at + text_len byte s ≡ end
    pub line : end + ending s ≡ next
    pub some : end < next

  ending_at : (s : List ℕ) → eol (drop (text_end byte s at) s) ≡ ending (drop at s)
  ending_at s = ap eol (sym (drop-drop (text_len byte (drop at s)) at s))

  pub ends : (s : List ℕ) {end next : ℕ} → text_at byte s at ≡ text_ends end next → Ends (drop at s) end next
  ends s {end} {next} e = go (text_view byte s at)
    where
      go : TextView byte s at → Ends (drop at s) end next
      go (text x f) =
          let p : text_end byte s at ≡ end = text_end_same (sym f ∙ e) in
          let q : text_end byte s at + eol (drop (text_end byte s at) s) ≡ next = text_next_same (sym f ∙ e) in
          record { to = p; line = omega (arith, ending_at s); some = omega arith }
      go (no_text z f) = absurd (let x : ◌≡◌ {A = ℕ} 0 1 = cc in omega arith)

  ends_so : (s : List ℕ) {end next : ℕ} → Ends (drop at s) end next → text_at byte s at ≡ text_ends end next
  ends_so s {end} {next} h = go (text_view byte s at)
    where
      q : text_end byte s at + eol (drop (text_end byte s at) s) ≡ next
      q = omega (arith, ending_at s, h.to, h.line)

      go : TextView byte s at → text_at byte s at ≡ text_ends end next
      go (text x f) = cc (h.to, q)
      go (no_text z f) = absurd (omega (arith, q, h.to, h.some))

  ends_local : (v r r' : List ℕ) {end next : ℕ} → Ends (v ++ r) end next → next ≤ at + length v → Ends (v ++ r') end next
  ends_local v r r' h l =
      let t : text_len byte (v ++ r') ≡ text_len byte (v ++ r) = text_span byte v r r' (omega arith) (omega arith) in
      let k : ending (v ++ r') ≡ ending (v ++ r) = rw t (text_end_lem byte v r r' (omega arith) (omega arith)) in
      record { to = omega arith; line = omega arith; some = h.some }

  pub text_local : (u r r' : List ℕ) {end next : ℕ} → text_at byte (u ++ r) at ≡ text_ends end next → next ≤ length u
      → text_at byte (u ++ r') at ≡ text_ends end next
  text_local u r r' e l =
      let m = ends (u ++ r) e in
      let d : drop at (u ++ r) ≡ drop at u ++ r = drop-append-le at u r (omega arith) in
      let d' : drop at (u ++ r') ≡ drop at u ++ r' = drop-append-le at u r' (omega arith) in
      ends_so (u ++ r') (rw d' (ends_local (drop at u) r r' (rw d at m) (omega (arith, length-drop at u))))
