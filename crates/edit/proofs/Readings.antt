-- An edit by its parts: once its length is read, and once its name is bad.
use mathlib.Core.Path.{◌≡◌}
use mathlib.Core.Bool.{true, false, or-true}
use mathlib.Core.List.{List}
use Prim.Native.Nat.{ℕ, ◌+◌, ◌≤◌, ◌<◌}
use lib.Dec.{leb}
use lib.ListN.{length}
use borrow.Author.Tests.{lt-ltb, le-ltb, le-leb, eq-eqb, ne_eqb}
use Rattle.class.specs.Class.{Classes}
use Rattle.name.specs.Name.{valid_name}
use Rattle.length.specs.Length.{length_at, length_of}
use Rattle.parts.specs.Parts.{edit_kind, edit_name}
use Rattle.edit.specs.declared.EditFault.TheVariants.{BadName}
use Rattle.edit.specs.Edit.{id_bytes, named_edit, edit_of}
use Rattle.std.specs.declared.result.Result.TheVariants.{Err}

module _ (byte : Classes) (n : ℕ) (s : List ℕ) where
  abbrev kind : ℕ
  kind = edit_kind s 0

  module _ (some : 0 < length s) (known : kind ≤ 2) where
    pub good_length : {len from : ℕ} → length_at s 1 ≡ length_of len from → edit_of byte n s ≡ named_edit byte s from len (id_bytes kind n)
    unfolding edit_of
    good_length h = rw (lt-ltb 0 (length s) some, le-leb kind 2 known, h)

-- ---- an edit behind its length

module _ (byte : Classes) (s : List ℕ) (from len ids : ℕ) where
  pub empty_name : len ≡ 0 → named_edit byte s from len ids ≡ Err BadName
  unfolding named_edit
  empty_name h = rw (eq-eqb len 0 h)

  pub long_name : 4096 < len → named_edit byte s from len ids ≡ Err BadName
  unfolding named_edit
  long_name h = rw (lt-ltb 4096 len h, or-true)

  module _ (not_empty : len ≡ 0 → ⊥) (short : len ≤ 4096) where
    module _ (whole : leb (from + len + ids) (length s) ≡ true) where
      pub bad_name_lem : valid_name byte (edit_name s 0) ≡ false → named_edit byte s from len ids ≡ Err BadName
      unfolding named_edit
      bad_name_lem h = rw (ne_eqb len 0 not_empty, le-ltb 4096 len short, whole, h)
