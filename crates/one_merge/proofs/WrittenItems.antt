-- The items of written lines: one of each entry, in order, and so the entries come back.
use mathlib.Core.Path.{◌≡◌, refl, ap, ◌∙◌}
use mathlib.Core.Bool.{true}
use mathlib.Core.List.{List, [], ◌∷◌, ◌++◌}
use Prim.Native.Nat.{ℕ, ◌<◌}
use native.Mathlib.Omega.{arith}
use lib.ListN.{get_or, length, length-append}
use lib.Seq.{take-append_seam, drop-append_seam}
use Rattle.class.specs.Class.{paper, is_hex}
use Rattle.decode.specs.Entry.{Entry}
use Rattle.decode.specs.Record.{record_of}
use Rattle.iter.specs.Entries.{entries_of}
use Rattle.iter.specs.Items.{Item, size_of, items}
use Rattle.iter.proofs.Items.{size_good, items_nil, items_step}
use Rattle.lines.specs.Lines.{peeled_lines, lines_of, lines_of_all}
use Rattle.merge.proofs.Entries.{Digits, Sound, AllSound}
use Rattle.one_merge.proofs.ReadBack.{lines_then, reading_of, written, read_one, entry_back}
use Rattle.std.specs.declared.result.Result.TheVariants.{Ok}

-- ---- no entry begins with `^`, so that none is taken for the second line of the one before

digit_first : {n : ℕ} (id : List ℕ) → Digits n id → (t : List ℕ) → get_or (id ++ 32 ∷ t) 0 0 ≡ 94 → ⊥
unfolding is_hex
digit_first [] d t h = omega arith
digit_first (b ∷ id) d t h =
    let z : is_hex 94 ≡ true = rw h at (d.hex 0 (omega (arith, d.long))) in
    let w : ◌≡◌ {A = ℕ} 0 1 = cc in
    omega arith

-- ---- the items

abbrev pub written_all : List Entry → List Item
written_all [] = []
written_all (e ∷ es) = written e ∷ written_all es

module _ (n : ℕ) where
  no_caret : (es : List Entry) → AllSound n es → get_or (lines_of_all es) 0 0 ≡ 94 → ⊥
  no_caret [] s h = omega arith
  no_caret (e ∷ es) s h =
      digit_first e.id s.0.id (e.name ++ 10 ∷ (peeled_lines e.peeled ++ lines_of_all es)) (rw (lines_then e (lines_of_all es)) at h)

  items_one : (e : Entry) → Sound n e → (rest : List ℕ) → (get_or rest 0 0 ≡ 94 → ⊥) → items paper n (lines_of e ++ rest) ≡ written e ∷ items paper n rest
  items_one e s rest other =
      let all = lines_of e ++ rest in
      let r : record_of paper n all ≡ Ok (reading_of e) = read_one n e s rest other in
      let z : size_of paper n all ≡ length (lines_of e) = size_good paper n all (reading_of e) r in
      let some : 0 < length all =
      omega (arith, ap length (lines_then e rest), length-append e.id (32 ∷ (e.name ++ 10 ∷ (peeled_lines e.peeled ++ rest)))) in
      items_step paper n all some ∙ rw (z, r, take-append_seam (lines_of e) rest, drop-append_seam (lines_of e) rest)

  pub items_back : (es : List Entry) → AllSound n es → items paper n (lines_of_all es) ≡ written_all es
  items_back [] s = items_nil paper n
  items_back (e ∷ es) s = items_one e s.0 (lines_of_all es) (no_caret es s.1) ∙ ap (λ (l : List Item). written e ∷ l) (items_back es s.1)

  entries_written : (es : List Entry) → AllSound n es → entries_of n (written_all es) ≡ es
  entries_written [] s = refl
  entries_written (e ∷ es) s = rw (entry_back n e s.0, entries_written es s.1)

  pub entries_back : (es : List Entry) → AllSound n es → entries_of n (items paper n (lines_of_all es)) ≡ es
  entries_back es s = ap (entries_of n) (items_back es s) ∙ entries_written es s
