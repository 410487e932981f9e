-- The bytes of a good record without their CRs are the lines of its entry: only the CRs of its line ends go.
use mathlib.Core.Path.{◌≡◌, sym, ap, ◌∙◌}
use mathlib.Core.Bool.{true, false, not}
use mathlib.Core.List.{List, [], ◌∷◌, ◌++◌, append-nil}
use Prim.Native.Nat.{ℕ, suc, ◌+◌, ◌≤◌, ◌<◌}
use native.Mathlib.Numerals.{add-one}
use native.Mathlib.Omega.{arith}
use lib.ListN.{get_or, take, drop}
use lib.Seq.{take-add}
use borrow.Author.Tests.{ne_eqb}
use Rattle.class.specs.Class.{paper, is_hex, is_line_end}
use Rattle.parse.specs.Run.{span}
use Rattle.parse.specs.Line.{eol}
use Rattle.parse.proofs.Fronts.{at_drop, Eol, lf, crlf, eol_view}
use Rattle.parse.proofs.Fronts as fronts
use Rattle.name.specs.Name.{valid_name}
use Rattle.name.proofs.Laws.{valid_text}
use Rattle.decode.specs.declared.reference.Record.{Record}
use Rattle.decode.specs.Entry.{entry_of}
use Rattle.decode.specs.Record.{record_of}
use Rattle.decode.proofs.Entry.{entry_inside}
use Rattle.decode.proofs.Records.{name_len, after_name, head_len, peel_len, Head, Peel, View, is_bad_lem, plain, peeled, view}
use Rattle.iter.specs.Items.{Item, items}
use Rattle.checks.specs.Passes.{all_good}
use Rattle.put.specs.Cr.{not_cr, without_cr}
use Rattle.put.proofs.Crs.{without_append, without_none}
use Rattle.lines.specs.Lines.{record_line, peeled_line, lines_of}
use Rattle.merge.proofs.GoodItems.{Each, each_good}
use Rattle.merge.proofs.OldSound.{front_digits}
use Rattle.std.specs.declared.option.Option.TheVariants.{None, Some}
use Rattle.std.specs.declared.result.Result.TheVariants.{Ok}

-- ---- ids and names hold no CR, and a line end without its CR is LF

hex_no_cr : (b : ℕ) → is_hex b ≡ true → not_cr b ≡ true
unfolding is_hex
hex_no_cr b h = ap not (ne_eqb b 13 (λ e. let z : is_hex 13 ≡ true = rw e at h in let w : ◌≡◌ {A = ℕ} 0 1 = cc in omega arith))

text_no_cr : (b : ℕ) → is_line_end b ≡ false → not_cr b ≡ true
unfolding is_line_end
text_no_cr b h = ap not (ne_eqb b 13 (λ e. let z : is_line_end 13 ≡ false = rw e at h in let w : ◌≡◌ {A = ℕ} 0 1 = cc in omega arith))

id_kept : (n : ℕ) (s : List ℕ) → n ≤ span is_hex s → without_cr (take n s) ≡ take n s
id_kept n s h =
    let d = front_digits n s h in
    without_none (take n s) (λ i l. hex_no_cr (get_or (take n s) i 0) (d.hex i (omega (arith, d.long))))

name_kept : (name : List ℕ) → valid_name paper name ≡ true → without_cr name ≡ name
name_kept name v = without_none name (λ i l. text_no_cr (get_or name i 0) (valid_text name v i l))

end_kept : (s : List ℕ) → 0 < eol s → without_cr (take (eol s) s) ≡ 10 ∷ []
end_kept s h = go (eol_view s)
  where
    one : (s : List ℕ) → get_or s 0 0 ≡ 10 → without_cr (take 1 s) ≡ 10 ∷ []
    one [] e = absurd (omega arith)
    one (b ∷ s) e = rw e

    two : (s : List ℕ) → get_or s 0 0 ≡ 13 → get_or s 1 0 ≡ 10 → without_cr (take 2 s) ≡ 10 ∷ []
    two [] e f = absurd (omega arith)
    two (b ∷ []) e f = absurd (omega arith)
    two (b ∷ c ∷ s) e f = rw (e, f)

    go : Eol s → without_cr (take (eol s) s) ≡ 10 ∷ []
    go (fronts.none e) = absurd (omega arith)
    go (lf a e) = rw e (one s a)
    go (crlf a b e) = rw e (two s a b)

-- ---- the two lines of a record

record_without : (id name end : List ℕ) → without_cr id ≡ id → without_cr name ≡ name → without_cr end ≡ 10 ∷ []
    → without_cr (id ++ 32 ∷ (name ++ end)) ≡ record_line id name
record_without id name end p q r = rw (without_append id (32 ∷ (name ++ end)), p, without_append name end, q, r)

peeled_without : (id end : List ℕ) → without_cr id ≡ id → without_cr end ≡ 10 ∷ [] → without_cr (94 ∷ (id ++ end)) ≡ peeled_line id
peeled_without id end p r = rw (without_append id end, p, r)

module _ (n : ℕ) (s : List ℕ) where
  abbrev size : ℕ
  size = head_len paper n s

  abbrev name : List ℕ
  name = take (name_len paper n s) (drop (suc n) s)

  -- the first line: the id, a space, the name and the line end
  first_line_lem : Head paper n s → without_cr (take size s) ≡ record_line (take n s) name
  unfolding head_len
  first_line_lem h =
      let after = after_name paper n s in
      let k = name_len paper n s in
      let z : suc n + k + eol after ≡ n + suc (k + eol after) = omega arith in
      let cut : take (suc n + k + eol after) s ≡ take n s ++ 32 ∷ (name ++ take (eol after) after) =
      rw (z, take-add n (suc (k + eol after)) s, at_drop 32 (omega arith) n s h.space, take-add k (eol after) (drop (suc n) s)) in
      ap without_cr cut
      ∙ record_without (take n s) name (take (eol after) after) (id_kept n s h.id) (name_kept name h.name) (end_kept after h.end)

  -- the second line, behind it: `^`, the peeled id and the line end
  abbrev peeled_id_lem : List ℕ
  peeled_id_lem = take n (drop (suc size) s)

  second_line_lem : get_or s size 0 ≡ 94 → Peel paper n (drop size s) → without_cr (take (peel_len paper n (drop size s)) (drop size s)) ≡ peeled_line peeled_id_lem
  unfolding peel_len
  second_line_lem c p =
      let second = drop (suc size) s in
      let caret : drop size s ≡ 94 ∷ second = at_drop 94 (omega arith) size s c in
      let id : n ≤ span is_hex second = rw caret at p.id in
      let end : 0 < eol (drop n second) = rw caret at p.end in
      let z : suc n + eol (drop n second) ≡ suc (n + eol (drop n second)) = omega arith in
      let cut : take (suc n + eol (drop n second)) (94 ∷ second) ≡ 94 ∷ (peeled_id_lem ++ take (eol (drop n second)) (drop n second)) =
      rw (z, take-add n (eol (drop n second)) second) in
      rw caret
      (ap without_cr cut ∙ peeled_without peeled_id_lem (take (eol (drop n second)) (drop n second)) (id_kept n second id) (end_kept (drop n second) end))

  -- ---- both lines, or the first alone

  pub good_lines : (r : Record) → record_of paper n s ≡ Ok r → without_cr (take r.size s) ≡ lines_of (entry_of n s r)
  good_lines r e = go (view paper n s)
    where
      go : View paper n s → without_cr (take r.size s) ≡ lines_of (entry_of n s r)
      go (is_bad_lem f w q) = absurd (let z : ◌≡◌ {A = ℕ} 0 1 = cc in omega arith)
      go (plain h c q) =
          let w : r ≡ record { name_len = name_len paper n s; peeled = None; size = size } = cc in
          rw (w, add-one n) (first_line_lem h ∙ sym (append-nil (record_line (take n s) name)))
      go (peeled h c p q) =
          let k = peel_len paper n (drop size s) in
          let w : r ≡ record { name_len = name_len paper n s; peeled = Some (suc size); size = size + k } = cc in
          rw (w, add-one n)
          (ap without_cr (take-add size k s)
          ∙ without_append (take size s) (take k (drop size s))
          ∙ ap (λ l. l ++ without_cr (take k (drop size s))) (first_line_lem h)
          ∙ ap (λ l. record_line (take n s) name ++ l) (second_line_lem c p))

-- ---- all items of some bytes

abbrev pub PlainRecord : ℕ → Record → List ℕ → Type 0
PlainRecord n r bytes = without_cr bytes ≡ lines_of (entry_of n bytes r)

abbrev pub AllPlain : ℕ → List Item → Type 0
AllPlain n = Each (PlainRecord n)

pub olds_plain : (n : ℕ) (s : List ℕ) → all_good (items paper n s) ≡ true → AllPlain n (items paper n s)
olds_plain n = each_good n (PlainRecord n) (λ s r e. good_lines n s r e ∙ ap lines_of (sym (entry_inside paper n s r e)))
