-- Every id, name, peeled id and text that is handed out is a part of a line that stands in the file.
use mathlib.Core.Path.{◌≡◌, refl, sym, ap, ◌∙◌}
use mathlib.Core.List.{List, [], ◌∷◌}
use mathlib.Core.Option.{Option, some}
use Prim.Native.Nat.{ℕ, suc, ◌+◌, ◌-◌, ◌<◌}
use native.Mathlib.Numerals.{add-one}
use native.Mathlib.Omega.{arith}
use lib.ListN.{length, take, drop, length-drop}
use lib.Seq.{drop-drop, take-take, length-take-le}
use Rattle.class.specs.Class.{paper}
use Rattle.parse.specs.Line.{eol, line_len, text_at, text_ends}
use Rattle.parse.proofs.Fronts.{eol_line}
use Rattle.parse.proofs.Lines.{text_next_same}
use Rattle.parse.proofs.Slices.{part_of_front}
use Rattle.parse.proofs.Views.{text_end, TextView, text, no_text, text_view}
use Rattle.header.specs.declared.Header.{Header}
use Rattle.header.specs.Header.{tokens, plain_header, header_of}
use Rattle.header.proofs.Headers.{all_noted_body, HeaderView, none, unreadable, some as readable, header_view}
use Rattle.decode.specs.Entry.{entry_of}
use Rattle.decode.specs.Record.{record_of}
use Rattle.decode.proofs.Records.{View, is_bad_lem, plain, peeled, view, head_len, peel_len, name_len, Fits, fits}
use Rattle.decode.proofs.Locality.{head_line, peel_line_lem}
use Rattle.probe.specs.RecordStart.{line_start}
use Rattle.start.specs.Start.{start_line, start_of}
use Rattle.line_number.specs.LineNumber.{until_feed}
use Rattle.iter.specs.Items.{Item, size_of, item_of, items}
use Rattle.iter.proofs.Covers.{front_at}
use Rattle.iter.proofs.Each.{line_behind_lem, item_behind}
use Rattle.iter.proofs.Items.{items_step, some_item, size_le}
use Rattle.handed.specs.Handed.{good, line_over, handed_by, handed}
use Rattle.handed.specs.Iteration.{read_of}
use Rattle.handed.specs.Lines.{InLine, InLines, Each, ReadFromLines}
use Rattle.handed.proofs.Iterations.{reads_file}
use Rattle.std.specs.declared.result.Result.{Result}
use Rattle.std.specs.declared.option.Option.TheVariants.{Some}
use Rattle.std.specs.declared.result.Result.TheVariants.{Err, Ok}
use Rattle.header.specs.declared.BadHeader.{BadHeader}

-- ---- a body begins where a line begins: the header ends in a line feed

pub body_line : (file : List ℕ) (h : Header) → header_of paper file ≡ Ok h → h.body < length file → line_start file h.body ≡ h.body
body_line file h e inside = go (header_view paper file)
  where
    at_text : {end next : ℕ} → text_at paper file 18 ≡ text_ends end next → h.body ≡ next → TextView paper file 18 → line_start file h.body ≡ h.body
    at_text {end} {next} t z (no_text w f) = absurd (let x : ◌≡◌ {A = ℕ} 0 1 = cc in omega arith)
    at_text {end} {next} t z (text w f) =
        let m = text_end paper file 18 in
        let l : m + line_len (drop m file) ≡ h.body = let q : m + eol (drop m file) ≡ next = text_next_same (sym f ∙ t) in omega (arith, eol_line (drop m file) w) in
        rw l at (line_behind_lem file m (omega arith))

    go : HeaderView paper file → line_start file h.body ≡ h.body
    go (none x f) = let z : h ≡ plain_header 0 = cc in rw z
    go (unreadable x f) = absurd (let z : ◌≡◌ {A = ℕ} 0 1 = cc in omega arith)
    go (readable x m {end} {next} t f) =
        let words = tokens (take (end - 18) (drop 18 file)) in
        let z : h.body ≡ next = ap (λ (k : Result Header BadHeader). body_of k) (sym e ∙ f) ∙ all_noted_body words (plain_header next) in
        at_text t z (text_view paper file 18)
      where
        body_of : Result Header BadHeader → ℕ
        body_of (Ok k) = k.body
        body_of (Err k) = 0

-- ---- the parts of one item

module _ (n : ℕ) (s : List ℕ) (place : ℕ) (inside : place < length s) (starts : line_start s place ≡ place) where
  abbrev t : List ℕ
  t = drop place s

  abbrev first : List ℕ
  first = take (line_len t) t

  in_first : (x : List ℕ) (from len : ℕ) → x ≡ take len (drop from first) → InLine s x
  in_first x from len e = record { line = first; stands = record { place = place; inside = inside; begins = starts; is = refl }; from = from; len = len; is = e }

  -- a record of two lines, of k and m bytes: the peeled id stands in the second one, behind its first byte
  two_lines : (k m name : ℕ) → k ≡ line_len t → m ≡ line_len (drop k t) → Fits paper n t (record { name_len = name; peeled = Some (suc k); size = k + m })
      → InLines s (good (entry_of n (take (k + m) t) (record { name_len = name; peeled = Some (suc k); size = k + m })))
  two_lines k m name l q f =
      let (a, b) = f.peeled (suc k) refl in
      let d : drop k t ≡ drop (place + k) s = drop-drop k place s in
      let starts : line_start s (place + k) ≡ place + k = rw l (line_behind_lem s place (omega (arith, length-drop place s, f.inside))) in
      let long : m ≡ line_len (drop (place + k) s) = q ∙ ap line_len d in
      let second : List ℕ = take (line_len (drop (place + k) s)) (drop (place + k) s) in
      let there : take n (drop (suc k) (take (k + m) t)) ≡ take n (drop 1 second) =
      part_of_front n (suc k) (k + m) t (omega arith) ∙ ap (take n) (sym (drop-drop 1 k t ∙ ap (λ (j : ℕ). drop j t) (add-one k)))
      ∙ ap (λ (x : List ℕ). take n (drop 1 x)) d ∙ sym (part_of_front n 1 (line_len (drop (place + k) s)) (drop (place + k) s) (omega arith)) in (
        in_first _ 0 n (take-take n (k + m) t (omega arith) ∙ sym (take-take n (line_len t) t (omega arith))),
        in_first _ (n + 1) name (part_of_front name (n + 1) (k + m) t (omega arith) ∙ sym (part_of_front name (n + 1) (line_len t) t (omega arith))),
        record {
          line = second;
          stands = record { place = place + k; inside = omega (arith, length-drop place s, f.inside); begins = starts; is = refl };
          from = 1;
          len = n;
          is = there;
        },
      )

  item_lines : (line : Option ℕ) → InLines s (handed_by n line (take (size_of paper n t) t) (record_of paper n t))
  unfolding size_of
  item_lines line = go (view paper n t)
    where
      go : View paper n t → InLines s (handed_by n line (take (size_of paper n t) t) (record_of paper n t))
      go (is_bad_lem f w e) = rw e (in_first _ 0 (until_feed first) refl)
      go (plain h c e) = rw (e, head_line n t h) (in_first _ 0 n refl, in_first _ (n + 1) (name_len paper n t) refl, tt)
      go (peeled h c p e) = rw e (two_lines (head_len paper n t) (peel_len paper n (drop (head_len paper n t) t)) (name_len paper n t) (head_line n t h)
          (peel_line_lem n (drop (head_len paper n t) t) (front_at 94 (omega arith) (head_len paper n t) t c) p) (fits paper n t _ e))

pub lines_from : (n : ℕ) (s : List ℕ) (l : List Item) (place : ℕ) (line : Option ℕ) → items paper n (drop place s) ≡ l → (place < length s → line_start s place ≡ place)
    → Each (λ g. InLines s g.what) (handed n place line l)
lines_from n s [] place line e start = tt
lines_from n s (i ∷ l) place line e start =
    let t = drop place s in
    let k = size_of paper n t in
    let some : 0 < length t = some_item paper n t i l e in
    let inside : place < length s = omega (arith, length-drop place s) in
    let is : i ≡ item_of paper n t = cc (items_step paper n t some) in
    let long : length i.bytes ≡ k = ap (λ (x : Item). length x.bytes) is ∙ length-take-le k t (size_le paper n t) in
    let rest : items paper n (drop (place + k) s) ≡ l = ap (items paper n) (sym (drop-drop k place s)) ∙ cc (items_step paper n t some) in
    (rw is (item_lines n s place inside (start inside) line), rw long (lines_from n s l (place + k) (line_over line i) rest (item_behind n s place)))

pub read_from_lines : (n : ℕ) (file : List ℕ) → ReadFromLines n file
unfolding read_of start_of
read_from_lines n file = go (header_of paper file) refl
  where
    go : (o : Result Header BadHeader) → header_of paper file ≡ o → ReadFromLines n file
    go (Err k) e = rw e tt
    go (Ok h) e =
        rw ((reads_file paper n file).all h e)
        (lines_from n file (items paper n (drop h.body file)) h.body (some (start_line file)) refl (body_line file h e))
