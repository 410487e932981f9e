-- A written file passes the check, which counts its entries, and a lookup in it tells the entry of the name.
use mathlib.Core.Path.{◌≡◌, refl, ap, ◌∙◌}
use mathlib.Core.Bool.{true}
use mathlib.Core.List.{List, [], ◌∷◌, ◌++◌}
use Prim.Native.Nat.{ℕ, suc, ◌<◌}
use lib.ListN.{length}
use Rattle.class.specs.Class.{paper}
use Rattle.name.specs.Name.{valid_name}
use Rattle.decode.specs.Entry.{Entry}
use Rattle.iter.specs.Items.{items}
use Rattle.checks.specs.Check.{check_of}
use Rattle.checks.specs.Passes.{all_good, IsAscending, Passes}
use Rattle.checks.proofs.Passes.{judges}
use Rattle.checks.proofs.CheckMeans.{read}
use Rattle.lines.specs.Lines.{lines_of_all, header_line}
use Rattle.one_merge.specs.OneMerge.{entry_named, Tells}
use Rattle.one_merge.proofs.CheckedLookup.{body_tells}
use Rattle.merge.proofs.Entries.{AllSound, Ascends}
use Rattle.one_merge.proofs.ReadBack.{name_back}
use Rattle.one_merge.proofs.WrittenHeader.{written_header}
use Rattle.one_merge.proofs.WrittenItems.{written_all, items_back, entries_back}
use Rattle.std.specs.declared.result.Result.TheVariants.{Ok}

all_good_lem : (es : List Entry) → all_good (written_all es) ≡ true
all_good_lem [] = refl
all_good_lem (e ∷ es) = all_good_lem es

count : (es : List Entry) → length es ≡ length (written_all es)
count [] = refl
count (e ∷ es) = ap suc (count es)

module _ (n : ℕ) where
  rising : (last : List ℕ) (es : List Entry) → AllSound n es → Ascends last es → IsAscending n last (written_all es)
  rising last [] s up = tt
  rising last (e ∷ es) s up = rw (name_back n e s.0) (up.0, rising e.name es s.1 up.1)

  module _ (es : List Entry) (s : AllSound n es) (up : Ascends [] es) where
    pub written_passes : Passes n (items paper n (lines_of_all es)) (length es)
    written_passes = rw (items_back n es s) (record { good = all_good_lem es; up = rising [] es s up; number = count es })

    pub passes : check_of paper n (header_line ++ lines_of_all es) ≡ Ok (length es)
    passes = read paper n (header_line ++ lines_of_all es) (written_header (lines_of_all es)) ∙ judges n 46 (items paper n (lines_of_all es)) written_passes

    pub lookup : 0 < n → (name : List ℕ) → valid_name paper name ≡ true → Tells n (lines_of_all es) name (entry_named name es)
    lookup digits name valid = rw (entries_back n es s) at (body_tells n digits (lines_of_all es) (length es) written_passes name valid)
