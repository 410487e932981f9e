-- The line feeds of an item: a record has one, and one more with a peeled line.
use mathlib.Core.Path.{◌≡◌, ◌∙◌}
use mathlib.Core.List.{List}
use Prim.Native.Nat.{ℕ, suc, ◌+◌, ◌-◌, ◌<◌}
use native.Mathlib.Omega.{arith}
use lib.ListN.{get_or, take, drop}
use lib.Seq.{drop-drop}
use Rattle.class.specs.Class.{paper}
use Rattle.parse.specs.Choice.{if}
use Rattle.parse.specs.Line.{eol, line_len}
use Rattle.decode.specs.declared.reference.Record.{Record}
use Rattle.decode.specs.Record.{record_of}
use Rattle.decode.proofs.Records.{View, is_bad_lem, plain, peeled, view, name_len, head_len, peel_len, Head, Peel}
use Rattle.decode.proofs.Locality.{head_line, peel_line_lem}
use Rattle.line_number.specs.LineNumber.{line_feeds}
use Rattle.line_number.proofs.Feeds.{feeds_take, ended_line, eol_last}
use Rattle.iter.proofs.Covers.{front_at}
use Rattle.std.specs.Prelude.{is_none}
use Rattle.std.specs.declared.result.Result.TheVariants.{Ok}

module _ (n : ℕ) where
  head_feeds : (t : List ℕ) → Head paper n t → line_feeds (take (head_len paper n t) t) ≡ 1
  unfolding head_len
  head_feeds t h =
      let k = suc n + name_len paper n t in
      let d : drop (name_len paper n t) (drop (suc n) t) ≡ drop k t = drop-drop (name_len paper n t) (suc n) t in
      let some : 0 < eol (drop k t) = rw d at h.end in
      let long : k + eol (drop k t) ≡ line_len t = rw d at (head_line n t h) in
      rw (head_line n t h)
      (ended_line t (k + eol (drop k t) - 1) (omega arith) (eol_last t k (k + eol (drop k t) - 1) some (omega arith)))

  peel_feeds : (t : List ℕ) → get_or t 0 0 ≡ 94 → Peel paper n t → line_feeds (take (peel_len paper n t) t) ≡ 1
  unfolding peel_len
  peel_feeds t c p =
      let k = suc n in
      rw (peel_line_lem n t c p)
      (ended_line t (k + eol (drop k t) - 1) (omega (arith, p.end, peel_line_lem n t c p)) (eol_last t k (k + eol (drop k t) - 1) p.end (omega (arith, p.end))))

  pub record_feeds : (t : List ℕ) (r : Record) → record_of paper n t ≡ Ok r → line_feeds (take r.size t) ≡ if (is_none r.peeled) 1 2
  record_feeds t r e = go (view paper n t)
    where
      of : (q : Record) → record_of paper n t ≡ Ok q → line_feeds (take q.size t) ≡ if (is_none q.peeled) 1 2
          → line_feeds (take r.size t) ≡ if (is_none r.peeled) 1 2
      of q f h = let same : q ≡ r = cc in rw same at h

      go : View paper n t → line_feeds (take r.size t) ≡ if (is_none r.peeled) 1 2
      go (is_bad_lem f w g) = absurd (let z : ◌≡◌ {A = ℕ} 0 1 = cc in omega arith)
      go (plain h c f) = of _ f (head_feeds t h)
      go (peeled h c p f) =
          let k = head_len paper n t in
          let u = drop k t in
          let both : line_feeds (take k t) + line_feeds (take (peel_len paper n u) u) ≡ 2 =
          omega (arith, head_feeds t h, peel_feeds u (front_at 94 (omega arith) k t c) p) in
          of _ f (feeds_take t k (peel_len paper n u) ∙ both)
