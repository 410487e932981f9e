-- Every edit of a list that has no fault has a valid name, and puts a sound entry of that name there, or none.
use mathlib.Core.Path.{◌≡◌, refl, sym, ap, ◌∙◌}
use mathlib.Core.Bool.{Bool, true, false}
use mathlib.Core.List.{List, [], ◌∷◌}
use Prim.Native.Nat.{ℕ, zero, suc, ◌+◌, ◌*◌, ◌/◌, ◌≤◌, ◌<◌}
use native.Mathlib.Nat.{add-zero}
use native.Mathlib.Omega.{arith}
use lib.Dec.{ltb}
use lib.ListN.{length, get_or, take, drop, length-drop}
use lib.Seq.{length-take-le, drop-drop, get_or-take, get_or-drop}
use Rattle.parse.specs.Choice.{if}
use Rattle.class.specs.Class.{Classes, paper}
use Rattle.name.specs.Name.{valid_name}
use Rattle.sort.proofs.Pairs.{Each}
use Rattle.length.specs.Length.{length_at, length_of}
use Rattle.length.proofs.Groups.{length_there}
use Rattle.parts.specs.Parts.{edit_kind, edit_name, behind_name}
use Rattle.parts.proofs.Parts.{name_there, behind_there}
use Rattle.edit.specs.Edit.{id_bytes, edit_of}
use Rattle.edits.specs.declared.list.ListFault.TheVariants.{TooMany}
use Rattle.edits.specs.List.{Listed, all, bad, with_place, listed_by, edits_from, edits_of}
use Rattle.hex_digits.specs.Hex.{hex_text}
use Rattle.hex_digits.proofs.Laws.{length_hex, hex_is_hex}
use Rattle.merge.specs.Override.{new_of, edit_at}
use Rattle.edit.proofs.Parts.{Whole, good_whole}
use Rattle.merge.proofs.Entries.{Digits, AllOf}
use Rattle.std.specs.declared.result.Result.{Result}
use Rattle.std.specs.declared.result.Result.TheVariants.{Err, Ok}
use Rattle.edit.specs.declared.EditFault.{EditFault}

-- ---- a list that has no fault: at each place a good edit stands, and there are no more of them than turns

module _ (byte : Classes) (n : ℕ) (list : List ℕ) where
  abbrev pub IsEdit : ℕ → Type 0
  IsEdit place = Whole byte n (drop place list)

  edits_from_lem : (turns place : ℕ) (l : List ℕ) → edits_from byte n list turns place ≡ all l → Each IsEdit l × (length l ≤ turns)
  unfolding edits_from
  edits_from_lem turns place [] e = (tt, omega arith)
  edits_from_lem zero place (p ∷ l) e = go (ltb place (length list)) e
    where
      go : (t : Bool) → if t (bad (TooMany place)) (all []) ≡ all (p ∷ l) → Each IsEdit (p ∷ l) × (length (p ∷ l) ≤ 0)
      go true e = absurd (let z : ◌≡◌ {A = ℕ} 0 1 = cc in omega arith)
      go false e = absurd (let z : ◌≡◌ {A = ℕ} 0 1 = cc in omega arith)
  edits_from_lem (suc turns) place (p ∷ l) e = go (ltb place (length list)) (edit_of byte n (drop place list)) refl (λ k. edits_from_lem turns k l) e
    where
      next : (size : ℕ) → edit_of byte n (drop place list) ≡ Ok size → (x : Listed) → edits_from byte n list turns (place + size) ≡ x
          → ((k : ℕ) → edits_from byte n list turns k ≡ all l → Each IsEdit l × (length l ≤ turns))
          → with_place place x ≡ all (p ∷ l) → Each IsEdit (p ∷ l) × (length (p ∷ l) ≤ suc turns)
      next size q (all m) r rest e =
          let z : place ≡ p = cc in
          let y : m ≡ l = cc in
          let w = rest (place + size) (r ∙ ap all y) in
          ((rw z at (good_whole byte n (drop place list) size q), w.0), omega (arith, w.1))
      next size q (bad why) r rest e = absurd (let z : ◌≡◌ {A = ℕ} 0 1 = cc in omega arith)

      go : (t : Bool) (x : Result ℕ EditFault) → edit_of byte n (drop place list) ≡ x
          → ((k : ℕ) → edits_from byte n list turns k ≡ all l → Each IsEdit l × (length l ≤ turns))
          → if t (listed_by x place (λ size. with_place place (edits_from byte n list turns (place + size)))) (all []) ≡ all (p ∷ l)
          → Each IsEdit (p ∷ l) × (length (p ∷ l) ≤ suc turns)
      go false x q rest e = absurd (let z : ◌≡◌ {A = ℕ} 0 1 = cc in omega arith)
      go true (Ok size) q rest e = next size q (edits_from byte n list turns (place + size)) refl rest e
      go true (Err f) q rest e = absurd (let z : ◌≡◌ {A = ℕ} 0 1 = cc in omega arith)

  pub places_edits : (places : List ℕ) → edits_of byte n list ≡ all places → Each IsEdit places × (length places ≤ 4096)
  unfolding edits_of
  places_edits places e = edits_from_lem 4096 0 places e

-- ---- raw ids as digits

module _ (n half : ℕ) (even : n ≡ 2 * half) where
  raw_digits : (ids : List ℕ) → half ≤ length ids → ((i : ℕ) → get_or ids i 0 < 256) → Digits n (hex_text (take (n / 2) ids))
  raw_digits ids room bytes =
      let z : n / 2 ≡ half = omega arith in
      let l = length-take-le half ids room in
      let k = length_hex (take half ids) in
      rw z
      (record {
        long = omega arith;
        hex = λ i h. hex_is_hex (take half ids) (λ j b. rw (get_or-take half ids j 0 (omega arith)) (bytes j)) i (omega arith);
      })

  -- where the ids of the kind stand one after another
  new_of_lem : (kind : ℕ) (name ids : List ℕ) → kind ≤ 2 → valid_name paper name ≡ true → id_bytes kind n ≤ length ids
      → ((i : ℕ) → get_or ids i 0 < 256) → AllOf n name (new_of kind name (take (n / 2) ids) (take (n / 2) (drop (n / 2) ids)))
  new_of_lem zero name ids k v h b = tt
  new_of_lem (suc zero) name ids k v h b =
      (refl, record { id = raw_digits ids (omega arith) b; name = v; peeled = tt }, refl)
  new_of_lem (suc (suc zero)) name ids k v h b =
      let m : n / 2 ≡ half = omega arith in
      let l = length-drop (n / 2) ids in
      let second = raw_digits (drop (n / 2) ids) (omega arith) (λ i. rw (get_or-drop (n / 2) ids i 0) (b (n / 2 + i))) in
      (refl, record { id = raw_digits ids (omega arith) b; name = v; peeled = second }, refl)
  new_of_lem (suc (suc (suc kind))) name ids k v h b = absurd (omega arith)

-- ---- the edit at a place

module _ (n : ℕ) (list : List ℕ) (place : ℕ) (w : IsEdit paper n list place) where
  measure : length_at list (place + 1) ≡ length_of w.len (place + w.from)
  measure = length_there list place w.measure

  pub edit_name_valid : valid_name paper (edit_name list place) ≡ true
  edit_name_valid =
      ap (valid_name paper)
      (name_there list place measure ∙ ap (take w.len) (sym (drop-drop w.from place list)) ∙ sym (name_there (drop place list) 0 w.measure))
      ∙ w.valid

  kind_there : edit_kind (drop place list) 0 ≡ edit_kind list place
  kind_there = get_or-drop place list 0 0 ∙ ap (edit_kind list) (add-zero place)

  pub edit_puts : (half : ℕ) → n ≡ 2 * half → ((i : ℕ) → get_or list i 0 < 256) → AllOf n (edit_name list place) (edit_at n list place).new
  edit_puts half even bytes =
      let whole : w.from + w.len + id_bytes (edit_kind list place) n ≤ length (drop place list) = rw kind_there at w.fits in
      let at = place + w.from + w.len in
      let ids : behind_name list place ≡ drop at list = behind_there list place measure in
      new_of_lem n half even (edit_kind list place) (edit_name list place) (behind_name list place) (omega (arith, w.known, kind_there)) edit_name_valid
      (rw (ids, length-drop at list) (omega (arith, length-drop place list)))
      (λ i. rw (ids, get_or-drop at list i 0) (bytes (at + i)))
