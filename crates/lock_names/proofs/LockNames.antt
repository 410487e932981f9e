-- A name that has a component ending in `.lock` is not valid, and what each place gives for a name that is not valid. Assumes nothing.
use mathlib.Core.Path.{◌≡◌, refl, sym, ap, ◌∙◌}
use mathlib.Core.Bool.{Bool, true, false}
use mathlib.Core.List.{List}
use Prim.Native.Nat.{ℕ, ◌+◌, ◌≤◌}
use native.Mathlib.Numerals.{add-one}
use native.Mathlib.Omega.{arith}
use borrow.Author.Tests.{le-leb, eqb-true, eqb-false, ltb-true, ltb-false}
use lib.Dec.{eqb, ltb}
use lib.ListN.{length, take, drop}
use Rattle.class.specs.Class.{paper}
use Rattle.parse.specs.Limit.{admission}
use Rattle.compare.specs.Prefix.{begins}
use Rattle.name.specs.Name.{no_component_ends_with_lock, valid_name}
use Rattle.name.proofs.Laws.{rules}
use Rattle.decode.specs.declared.reference.Record.{Record}
use Rattle.decode.specs.Entry.{entry_of}
use Rattle.decode.specs.Record.{record_of}
use Rattle.decode.proofs.Parts.{no_name}
use Rattle.decode.proofs.Records.{name_len, Head, View, is_bad_lem, plain, peeled, view}
use Rattle.find.specs.Lookup.{lookup_of, lookup_answer, lookup_number}
use Rattle.ask.specs.Ask.{ask_of, ask_answer, ask_number}
use Rattle.parts.specs.Parts.{edit_kind, edit_name}
use Rattle.edit.specs.declared.EditFault.TheVariants.{BadName}
use Rattle.edit.specs.Edit.{id_bytes, named_edit}
use Rattle.edit.proofs.Readings.{good_length, empty_name, long_name, bad_name_lem}
use Rattle.loose.specs.Loose.{ref_mark, path_start, path_len, symbolic_of, loose_of, loose_answer, loose_number}
use Rattle.lock_names.specs.LockNames.{Refused, LockNames}
use Rattle.std.specs.declared.option.Option.{Option}
use Rattle.std.specs.declared.result.Result.TheVariants.{Err, Ok}

-- a valid name has no such component
lock_invalid : (name : List ℕ) → no_component_ends_with_lock name ≡ false → valid_name paper name ≡ false
lock_invalid name h = go (valid_name paper name) refl
  where
    go : (t : Bool) → valid_name paper name ≡ t → t ≡ false
    go false e = refl
    go true e = sym ((rules paper name).0 e).lock ∙ h

-- the name of a record that can be read is valid
record_name : (n : ℕ) (s : List ℕ) (r : Record) → record_of paper n s ≡ Ok r → valid_name paper (entry_of n s r).name ≡ true
record_name n s r e = go (view paper n s)
  where
    -- a record with the first line's name, whatever its other fields
    named : Head paper n s → (o : Option ℕ) (z : ℕ) → record_of paper n s ≡ Ok (record { name_len = name_len paper n s; peeled = o; size = z })
        → valid_name paper (entry_of n s r).name ≡ true
    named h o z is =
        let whole : r ≡ record { name_len = name_len paper n s; peeled = o; size = z } = cc in
        let len : r.name_len ≡ name_len paper n s = ap (λ (q : Record). q.name_len) whole in
        rw (len, add-one n) h.name

    go : View paper n s → valid_name paper (entry_of n s r).name ≡ true
    go (is_bad_lem f none is) = absurd (let z : ◌≡◌ {A = ℕ} 0 1 = cc in omega arith)
    go (plain h other is) = named h _ _ is
    go (peeled h caret p is) = named h _ _ is

-- what each place gives for a name that is not valid
module _ (kind n : ℕ) (name : List ℕ) (invalid : valid_name paper name ≡ false) where
  looked_up : (body : List ℕ) → admission kind (length body) (length name) ≡ Ok n → lookup_number (lookup_answer kind body name) ≡ 3
  unfolding lookup_answer lookup_of
  looked_up body h = rw (h, invalid)

  asked : (file : List ℕ) → admission kind (length file) (length name) ≡ Ok n → ask_number (ask_answer kind file name) ≡ 3
  unfolding ask_answer ask_of
  asked file h = rw (h, invalid)

  -- a length of 0 or beyond 4,096 is refused as the name is
  edited : (s : List ℕ) (from len ids : ℕ) → from + len + ids ≤ length s → edit_name s 0 ≡ name → named_edit paper s from len ids ≡ Err BadName
  edited s from len ids whole is = go (eqb len 0) refl (ltb 4096 len) refl
    where
      go : (t : Bool) → eqb len 0 ≡ t → (u : Bool) → ltb 4096 len ≡ u → named_edit paper s from len ids ≡ Err BadName
      go true e u f = empty_name paper s from len ids (eqb-true len 0 e)
      go false e true f = long_name paper s from len ids (ltb-true 4096 len f)
      go false e false f =
          bad_name_lem paper s from len ids (eqb-false len 0 e) (ltb-false 4096 len f) (le-leb (from + len + ids) (length s) whole) (ap (valid_name paper) is ∙ invalid)

  targeted : (content : List ℕ) → admission kind (length content) 0 ≡ Ok n → begins ref_mark content ≡ true
      → take (path_len paper (drop (path_start content) content)) (drop (path_start content) content) ≡ name → loose_number (loose_answer kind content) ≡ 16
  unfolding loose_answer loose_of symbolic_of
  targeted content h mark is = rw (h, mark, is, invalid)

  refused : Refused kind n name
  refused =
      record {
        bad_record = λ s id space text is. (no_name paper n s id space text (ap (valid_name paper) is ∙ invalid), refl);
        no_record = λ s r e is. absurd (let z : true ≡ false = sym (record_name n s r e) ∙ ap (valid_name paper) is ∙ invalid in let x : ◌≡◌ {A = ℕ} 0 1 = cc in omega arith);
        lookup = looked_up;
        ask = asked;
        bad_edit = λ s {len} {from} some known length whole is. (good_length paper n s some known length ∙ edited s from len (id_bytes (edit_kind s 0) n) whole is, refl);
        target = targeted;
      }

pub lock_names : LockNames
lock_names kind n name h = refused kind n name (lock_invalid name h)
