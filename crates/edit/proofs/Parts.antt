-- What makes an edit good.
use mathlib.Core.Path.{◌≡◌, refl, sym, ◌∙◌}
use mathlib.Core.Bool.{Bool, true, false, ◌&&◌, ◌||◌, and-eq-true_iff}
use mathlib.Core.List.{List}
use Prim.Native.Nat.{ℕ, ◌+◌, ◌≤◌, ◌<◌}
use native.Mathlib.Omega.{arith}
use lib.Dec.{leb, ltb, eqb}
use lib.ListN.{length, drop, length-drop}
use borrow.Author.Tests.{leb-true}
use Rattle.parse.specs.Choice.{if}
use Rattle.class.specs.Class.{Classes}
use Rattle.name.specs.Name.{valid_name}
use Rattle.length.specs.Length.{length_at, measured, length_of}
use Rattle.length.proofs.Groups.{length_small}
use Rattle.parts.specs.Parts.{edit_kind, edit_name}
use Rattle.edit.specs.declared.EditFault.TheVariants.{Malformed, BadName}
use Rattle.edit.specs.Edit.{id_bytes, named_edit, edit_of}
use Rattle.std.specs.declared.option.Option.{Option}
use Rattle.std.specs.declared.option.Option.TheVariants.{None, Some}
use Rattle.std.specs.declared.result.Result.TheVariants.{Err, Ok}
use Rattle.length.specs.declared.Length.{Length}

module _ (byte : Classes) (n : ℕ) (s : List ℕ) where
  abbrev kind : ℕ
  kind = edit_kind s 0

  -- what an edit takes whose name of so many bytes stands at a place
  abbrev taken : ℕ → ℕ → ℕ
  taken len from = from + len + id_bytes kind n

  pub record Whole : Type 0 where
    pub len : ℕ
    pub from : ℕ
    pub measure : length_at s 1 ≡ length_of len from
    pub known : kind ≤ 2
    pub fits : from + len + id_bytes kind n ≤ length s
    pub valid : valid_name byte (edit_name s 0) ≡ true
    pub is : edit_of byte n s ≡ Ok (taken len from)

  module _ (size : ℕ) (e : edit_of byte n s ≡ Ok size) where
    pub good_whole : Whole
    unfolding edit_of named_edit
    good_whole = go (ltb 0 (length s) && leb kind 2) refl (length_at s 1) refl e
      where
        named : (len from : ℕ) → length_at s 1 ≡ length_of len from → kind ≤ 2 → (bad : Bool)
            → (full : Bool) → leb (from + len + id_bytes kind n) (length s) ≡ full → (valid : Bool) → valid_name byte (edit_name s 0) ≡ valid
            → if bad (Err BadName) (if full (if valid (Ok (taken len from)) (Err BadName)) (Err Malformed)) ≡ Ok size → Whole
        named len from m k true w q v p r = absurd (let z : ◌≡◌ {A = ℕ} 0 1 = cc in omega arith)
        named len from m k false false q v p r = absurd (let z : ◌≡◌ {A = ℕ} 0 1 = cc in omega arith)
        named len from m k false true q false p r = absurd (let z : ◌≡◌ {A = ℕ} 0 1 = cc in omega arith)
        named len from m k false true q true p r =
            record { len = len; from = from; measure = m; known = k; fits = leb-true (from + len + id_bytes kind n) (length s) q; valid = p; is = e ∙ sym r }

        go : (a : Bool) → (ltb 0 (length s) && leb kind 2) ≡ a → (l : Option Length) → length_at s 1 ≡ l
            → if a (measured l (λ len from. named_edit byte s from len (id_bytes kind n)) (Err Malformed)) (Err Malformed) ≡ Ok size → Whole
        go false t l m q = absurd (let z : ◌≡◌ {A = ℕ} 0 1 = cc in omega arith)
        go true t None m q = absurd (let z : ◌≡◌ {A = ℕ} 0 1 = cc in omega arith)
        go true t (Some l) m q =
            let known = leb-true kind 2 ((and-eq-true_iff (ltb 0 (length s)) (leb kind 2)).0 t).1 in
            named l.value l.next m known (eqb l.value 0 || ltb 4096 l.value) (leb (l.next + l.value + id_bytes kind n) (length s)) refl
            (valid_name byte (edit_name s 0)) refl q

    -- it takes some bytes, and they stand there
    edit_fits : (0 < size) × (size ≤ length s)
    edit_fits =
        let w = good_whole in
        let same : Ok (taken w.len w.from) ≡ Ok size = sym w.is ∙ e in
        let is : w.from + w.len + id_bytes kind n ≡ size = cc in
        (omega (arith, length_small s 1 w.measure), omega (arith, w.fits))

-- so the next edit stands farther on, or the list ends there
pub edit_goes_on : (byte : Classes) (n : ℕ) (list : List ℕ) (place size : ℕ) → edit_of byte n (drop place list) ≡ Ok size
    → (place < place + size) × (place + size ≤ length list)
edit_goes_on byte n list place size e =
    let fits = edit_fits byte n (drop place list) size e in
    (omega (arith, fits.0), omega (arith, fits, length-drop place list))
