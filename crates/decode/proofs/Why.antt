-- Why a record is bad: each part is read or it is not, and the first that is not is told.
use mathlib.Core.Path.{◌≡◌, refl, ap, ◌∙◌, subst}
use mathlib.Core.Bool.{Bool, true, false}
use mathlib.Core.List.{List}
use Prim.Native.Nat.{ℕ, ◌+◌, ◌-◌, ◌<◌}
use native.Mathlib.Nat.{zero-add}
use native.Mathlib.Omega.{arith}
use lib.ListN.{get_or, take, drop}
use Rattle.class.specs.Class.{Classes}
use Rattle.parse.specs.Part.{byte_at}
use Rattle.parse.specs.Line.{text_at, text_ends}
use Rattle.parse.proofs.Views.{ByteView, there, not_there, byte_view, NewlineView, newline, no_newline, newline_view, TextView, text, no_text, text_view}
use Rattle.id.specs.Id.{id_at}
use Rattle.id.proofs.Ids.{IdView, no_id, id_view}
use Rattle.id.proofs.Ids as ids
use Rattle.name.specs.Name.{valid_name}
use Rattle.decode.specs.declared.reference.Fault.{Fault}
use Rattle.decode.specs.declared.reference.Fault.TheVariants.{Peeled}
use Rattle.decode.specs.Record.{record_of}
use Rattle.decode.specs.Why.{HasId, HasSpace, HasLineEnd, HasName, name_len, name_end, second, Why, id, space, line_end_lem, name, peeled, EachHasItsReason}
use Rattle.decode.proofs.Parts as parts
use Rattle.std.specs.declared.option.Option.TheVariants.{None, Some}
use Rattle.std.specs.declared.result.Result.TheVariants.{Err}

module _ (byte : Classes) (n : ℕ) (s : List ℕ) where
  -- ---- a part that is there is read, and one that is not is not

  id_at_lem : HasId byte n s → id_at byte n s 0 ≡ Some n
  id_at_lem h = go (id_view byte n s 0)
    where
      go : IdView byte n s 0 → id_at byte n s 0 ≡ Some n
      go (ids.id l e) = e ∙ ap Some (zero-add n)
      go (no_id l e) = absurd (omega arith)

  no_id_at : (HasId byte n s → ⊥) → id_at byte n s 0 ≡ None
  no_id_at h = go (id_view byte n s 0)
    where
      go : IdView byte n s 0 → id_at byte n s 0 ≡ None
      go (ids.id l e) = absurd (h l)
      go (no_id l e) = e

  byte_at_lem : (b at : ℕ) → 0 < b → get_or s at 0 ≡ b → byte_at b s at ≡ Some (at + 1)
  byte_at_lem b at some h = go (byte_view b some s at)
    where
      go : ByteView b s at → byte_at b s at ≡ Some (at + 1)
      go (there l q e) = e
      go (not_there other e) = absurd (other h)

  no_byte_at : (b at : ℕ) → 0 < b → (get_or s at 0 ≡ b → ⊥) → byte_at b s at ≡ None
  no_byte_at b at some h = go (byte_view b some s at)
    where
      go : ByteView b s at → byte_at b s at ≡ None
      go (there l q e) = absurd (h q)
      go (not_there other e) = e

  text_at_lem : HasLineEnd byte n s → text_at byte s (n + 1) ≡ text_ends (name_end byte n s) (second byte n s)
  text_at_lem h = go (text_view byte s (n + 1))
    where
      go : TextView byte s (n + 1) → text_at byte s (n + 1) ≡ text_ends (name_end byte n s) (second byte n s)
      go (text some e) = e
      go (no_text none e) = absurd (omega arith)

  no_text_at : (HasLineEnd byte n s → ⊥) → text_at byte s (n + 1) ≡ None
  no_text_at h = go (text_view byte s (n + 1))
    where
      go : TextView byte s (n + 1) → text_at byte s (n + 1) ≡ None
      go (text some e) = absurd (h some)
      go (no_text none e) = e

  -- the reading cuts the name out by its two ends
  cut : valid_name byte (take (name_end byte n s - (n + 1)) (drop (n + 1) s)) ≡ valid_name byte (take (name_len byte n s) (drop (n + 1) s))
  cut =
      let k : name_end byte n s - (n + 1) ≡ name_len byte n s = omega arith in
      ap (λ (m : ℕ). valid_name byte (take m (drop (n + 1) s))) k

  not_valid : (b : Bool) → (b ≡ true → ⊥) → b ≡ false
  not_valid true h = absurd (h refl)
  not_valid false h = refl

  -- ---- from the reason to the reading

  told : {f : Fault} → Why byte n s f → record_of byte n s ≡ Err f
  told (id h) = parts.no_id byte n s (no_id_at h)
  told (space i h) = parts.no_space byte n s (id_at_lem i) (no_byte_at 32 n (omega arith) h)
  told (line_end_lem i b h) = parts.no_line_end byte n s (id_at_lem i) (byte_at_lem 32 n (omega arith) b) (no_text_at h)
  told (name i b l h) = parts.no_name byte n s (id_at_lem i) (byte_at_lem 32 n (omega arith) b) (text_at_lem l) (cut ∙ not_valid _ h)
  told (peeled i b l v c h) = go (id_view byte n s (second byte n s + 1)) (newline_view s (second byte n s + 1 + n))
    where
      caret : byte_at 94 s (second byte n s) ≡ Some (second byte n s + 1)
      caret = byte_at_lem 94 (second byte n s) (omega arith) c

      go : IdView byte n s (second byte n s + 1) → NewlineView s (second byte n s + 1 + n) → record_of byte n s ≡ Err Peeled
      go (no_id k e) w = parts.no_peeled_id byte n s (id_at_lem i) (byte_at_lem 32 n (omega arith) b) (text_at_lem l) (cut ∙ v) caret e
      go (ids.id k e) (no_newline z w) = parts.no_peeled_end byte n s (id_at_lem i) (byte_at_lem 32 n (omega arith) b) (text_at_lem l) (cut ∙ v) caret e w
      go (ids.id k e) (newline z w) = absurd (h (k, z))

  -- ---- and back: the reading goes through the parts, and ends at the first that is not there

  module _ (f : Fault) (bad : record_of byte n s ≡ Err f) where
    is : {g : Fault} → Why byte n s g → Why byte n s f
    is {g} w = let e : g ≡ f = cc (told w) in subst (Why byte n s) e w

    reason : Why byte n s f
    reason = by_id (id_view byte n s 0) (byte_view 32 (omega arith) s n) (text_view byte s (n + 1)) (valid_name byte (take (name_len byte n s) (drop (n + 1) s))) refl
      where
        -- the first line was read
        by_caret : HasId byte n s → HasSpace byte n s → HasLineEnd byte n s → HasName byte n s → ByteView 94 s (second byte n s)
            → IdView byte n s (second byte n s + 1) → NewlineView s (second byte n s + 1 + n) → Why byte n s f
        by_caret i b l v (not_there other e) x w =
            absurd (let r = parts.plain_record byte n s (id_at_lem i) (byte_at_lem 32 n (omega arith) b) (text_at_lem l) (cut ∙ v) e in let z : ◌≡◌ {A = ℕ} 0 1 = cc in omega arith)
        by_caret i b l v (there k c e) (no_id short q) w = is (peeled i b l v c (λ h. omega (arith, h.0)))
        by_caret i b l v (there k c e) (ids.id long q) (no_newline none p) = is (peeled i b l v c (λ h. omega (arith, h.1)))
        by_caret i b l v (there k c e) (ids.id long q) (newline some p) =
            absurd
            (let r = parts.peeled_record byte n s (id_at_lem i) (byte_at_lem 32 n (omega arith) b) (text_at_lem l) (cut ∙ v) e q p in let z : ◌≡◌ {A = ℕ} 0 1 = cc in omega arith)

        by_id : IdView byte n s 0 → ByteView 32 s n → TextView byte s (n + 1) → (v : Bool) → valid_name byte (take (name_len byte n s) (drop (n + 1) s)) ≡ v → Why byte n s f
        by_id (no_id short q) x t v e = is (id (λ h. omega arith))
        by_id (ids.id long q) (not_there other p) t v e = is (space long other)
        by_id (ids.id long q) (there k b p) (no_text none w) v e = is (line_end_lem long b (λ h. omega arith))
        by_id (ids.id long q) (there k b p) (text some w) false e = is (name long b some (λ h. let z : ◌≡◌ {A = ℕ} 0 1 = cc in omega arith))
        by_id (ids.id long q) (there k b p) (text some w) true e =
            by_caret long b some e (byte_view 94 (omega arith) s (second byte n s)) (id_view byte n s (second byte n s + 1)) (newline_view s (second byte n s + 1 + n))

pub each_has_its_reason : EachHasItsReason
each_has_its_reason byte n s f = record { only = reason byte n s f; then! = told byte n s }
