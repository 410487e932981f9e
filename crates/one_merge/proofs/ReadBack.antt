-- The lines of an entry read as a record, and that record is the entry.
use mathlib.Core.Path.{◌≡◌, refl, sym, ap, ◌∙◌}
use mathlib.Core.Bool.{true}
use mathlib.Core.List.{List, [], ◌∷◌, ◌++◌, append_assoc, append-nil}
use mathlib.Core.Option.{Option, none, some}
use Prim.Native.Nat.{ℕ, suc, ◌+◌}
use native.Mathlib.Numerals.{add-one}
use native.Mathlib.Omega.{arith}
use lib.ListN.{get_or, length, take, drop, length-append}
use lib.Seq.{take_at, take-append_seam}
use Rattle.class.specs.Class.{paper}
use Rattle.name.specs.Name.{valid_name}
use Rattle.decode.specs.declared.reference.Record.{Record}
use Rattle.decode.specs.Entry.{Entry, peeled_id, entry_of}
use Rattle.decode.specs.Record.{record_of}
use Rattle.decode.proofs.Records.{good_alike, head_len, peel_len, Peel, plain_is, peeled_is}
use Rattle.iter.specs.Items.{Item, name_of}
use Rattle.lines.specs.Lines.{record_line, peeled_line, peeled_lines, lines_of}
use Rattle.merge.proofs.Entries.{Digits, DigitsIf, Sound}
use Rattle.one_merge.proofs.WrittenLines.{behind, line_then, name_len_lem, line_head, head_len_lem, behind_head, byte_behind, line_peel, peel_len_lem}
use Rattle.std.specs.declared.option.Option as std
use Rattle.std.specs.declared.option.Option.TheVariants.{None, Some}
use Rattle.std.specs.declared.result.Result.TheVariants.{Ok}

-- where the peeled id stands behind a first line of some length: behind the `^`
abbrev pub peeled_place : ℕ → Option (List ℕ) → std.Option ℕ
peeled_place first none = None
peeled_place first (some id) = Some (suc first)

-- what the lines of an entry read as, and the item that they are
abbrev pub reading_of : Entry → Record
reading_of e =
    record {
      name_len = length e.name;
      peeled = peeled_place (length (record_line e.id e.name)) e.peeled;
      size = length (lines_of e);
    }

abbrev pub written : Entry → Item
written e = record { what = Ok (reading_of e); bytes = lines_of e }

-- a first line, and any bytes behind it
laid : (id name t : List ℕ) → record_line id name ++ t ≡ line_then id name t
laid id name t = simp append_assoc

-- ---- reading

module _ {n : ℕ} {id : List ℕ} (digits : Digits n id) (name : List ℕ) (valid : valid_name paper name ≡ true) where
  first_len : length (record_line id name) ≡ suc n + length name + 1
  first_len = omega (arith, length-append id (32 ∷ (name ++ 10 ∷ [])), length-append name (10 ∷ []), digits.long)

  read_plain : (rest : List ℕ) → (get_or rest 0 0 ≡ 94 → ⊥)
      → record_of paper n (record_line id name ++ rest) ≡ Ok (record { name_len = length name; peeled = None; size = length (record_line id name) })
  read_plain rest other =
      ap (record_of paper n) (laid id name rest)
      ∙ plain_is paper n (line_then id name rest) (line_head digits name valid rest) (λ z. other (sym (byte_behind digits name valid rest) ∙ z))
      ∙ good_alike (name_len_lem digits name valid rest) refl (omega (arith, head_len_lem digits name valid rest, first_len))

  module _ {peeled_id_lem : List ℕ} (more : Digits n peeled_id_lem) (rest : List ℕ) where
    abbrev second : List ℕ
    second = peeled_line peeled_id_lem ++ rest

    abbrev both : List ℕ
    both = line_then id name second

    second_laid : second ≡ 94 ∷ (peeled_id_lem ++ 10 ∷ rest)
    second_laid = simp append_assoc

    peel : Peel paper n (drop (head_len paper n both) both)
    peel = rw (behind_head digits name valid second, second_laid) (line_peel more rest)

    second_len : peel_len paper n (drop (head_len paper n both) both) ≡ length (peeled_line peeled_id_lem)
    second_len =
        rw (behind_head digits name valid second, second_laid)
        (omega (arith, peel_len_lem more rest, length-append peeled_id_lem (10 ∷ []), more.long))

    read_peeled : record_of paper n (record_line id name ++ second)
        ≡ Ok (record { name_len = length name; peeled = Some (suc (length (record_line id name))); size = length (record_line id name) + length (peeled_line peeled_id_lem) })
    read_peeled =
        let h : head_len paper n both ≡ length (record_line id name) = omega (arith, head_len_lem digits name valid second, first_len) in
        ap (record_of paper n) (laid id name second)
        ∙ peeled_is paper n both (line_head digits name valid second) (byte_behind digits name valid second) peel
        ∙ good_alike (name_len_lem digits name valid second) (ap Some (ap suc h)) (omega (arith, second_len))

  read_lines : (o : Option (List ℕ)) → DigitsIf n o → (rest : List ℕ) → (get_or rest 0 0 ≡ 94 → ⊥)
      → record_of paper n ((record_line id name ++ peeled_lines o) ++ rest)
      ≡ Ok (record { name_len = length name; peeled = peeled_place (length (record_line id name)) o; size = length (record_line id name ++ peeled_lines o) })
  read_lines none d rest other = rw (append-nil (record_line id name)) (read_plain rest other)
  read_lines (some peeled_id_lem) d rest other =
      rw (append_assoc (record_line id name) (peeled_line peeled_id_lem) rest, length-append (record_line id name) (peeled_line peeled_id_lem)) (read_peeled d rest)

-- a record without a peeled id ends where no `^` follows
pub read_one : (n : ℕ) (e : Entry) → Sound n e → (rest : List ℕ) → (get_or rest 0 0 ≡ 94 → ⊥) → record_of paper n (lines_of e ++ rest) ≡ Ok (reading_of e)
read_one n e s rest other = read_lines s.id e.name s.name e.peeled s.peeled rest other

-- the lines of an entry, and any bytes behind them
pub lines_then : (e : Entry) (rest : List ℕ) → lines_of e ++ rest ≡ line_then e.id e.name (peeled_lines e.peeled ++ rest)
lines_then e rest = simp append_assoc

-- ---- the entry again

module _ (n : ℕ) (e : Entry) (s : Sound n e) where
  lines_laid : lines_of e ≡ line_then e.id e.name (peeled_lines e.peeled)
  lines_laid = laid e.id e.name (peeled_lines e.peeled)

  pub name_back : name_of n (written e) ≡ e.name
  name_back =
      rw (add-one n, lines_laid, behind e.id 32 (e.name ++ 10 ∷ peeled_lines e.peeled) n s.id.long)
      (take-append_seam e.name (10 ∷ peeled_lines e.peeled))

  id_back : take n (lines_of e) ≡ e.id
  id_back = rw lines_laid (take_at e.id (32 ∷ (e.name ++ 10 ∷ peeled_lines e.peeled)) n s.id.long)

  abbrev first : List ℕ
  first = record_line e.id e.name

  peeled_back : (o : Option (List ℕ)) → DigitsIf n o → peeled_id n (first ++ peeled_lines o) (peeled_place (length first) o) ≡ o
  peeled_back none d = refl
  peeled_back (some peeled_id_lem) d =
      ap some (ap (take n) (behind first 94 (peeled_id_lem ++ 10 ∷ []) (length first) refl) ∙ take_at peeled_id_lem (10 ∷ []) n d.long)

  pub entry_back : entry_of n (lines_of e) (reading_of e) ≡ e
  entry_back = λ i. record { name = name_back i; id = id_back i; peeled = peeled_back e.peeled s.peeled i }
