-- Writing the places of a whole edit list to an index, one after another: what stands there between the turns.
use mathlib.Core.Path.{◌≡◌, refl, sym, ap, ◌∙◌}
use mathlib.Core.Bool.{true}
use mathlib.Core.List.{List, [], ◌∷◌, ◌++◌, append_assoc, append-nil}
use Prim.Native.Nat.{ℕ, zero, suc, ◌+◌, ◌≤◌, ◌<◌}
use native.Mathlib.Numerals.{add-one}
use mathlib.Core.Logic.{by_cases}
use native.Mathlib.Decide.{dec_lt}
use native.Mathlib.Omega.{arith}
use lib.ListN.{get_or, length, drop, set, length-append}
use lib.Seq.{drop-cons, set_at}
use Rattle.std.proofs.lemmas.List.{nil_from_length}
use Rattle.class.specs.Class.{Classes}
use Rattle.edit.specs.declared.EditFault.{EditFault}
use Rattle.edit.specs.Edit.{edit_of}
use Rattle.edits.specs.List.{Listed, all, bad, with_place, edits_from, edits_of, is_whole, places_of}
use Rattle.edits.proofs.Lists.{from_end, from_many, from_bad, from_good}
use Rattle.std.specs.declared.result.Result.TheVariants.{Err, Ok}

module _ (byte : Classes) (n : ℕ) (list : List ℕ) where
  abbrev pub places : List ℕ
  places = places_of (edits_of byte n list)

  -- the places done stand in the index, those that are left come from the place reached on
  pub record Filling (index₀ index : List ℕ) (place i : ℕ) : Type 0 where
    pub done : List ℕ
    pub left : List ℕ
    pub turns : ℕ
    pub rest : edits_from byte n list turns place ≡ all left
    pub whole : places ≡ done ++ left
    pub count : length done ≡ i
    pub now : index ≡ done ++ drop i index₀

  pub filling_first : (index : List ℕ) → is_whole (edits_of byte n list) ≡ true → Filling index index 0 0
  unfolding edits_of
  filling_first index w = record { done = []; left = places; turns = 4096; rest = go (edits_of byte n list) w; whole = refl; count = refl; now = refl }
    where
      go : (l : Listed) → is_whole l ≡ true → l ≡ all (places_of l)
      go (all l) e = refl
      go (bad why) e = absurd (let z : ◌≡◌ {A = ℕ} 0 1 = cc in omega arith)

  -- no place is left
  all_done : (index₀ index : List ℕ) (place i : ℕ) (f : Filling index₀ index place i) → f.left ≡ [] → index ≡ places ++ drop (length places) index₀
  all_done index₀ index place i f none =
      let all! : places ≡ f.done = f.whole ∙ ap (λ (l : List ℕ). f.done ++ l) none ∙ append-nil f.done in
      let k : length places ≡ i = ap length all! ∙ f.count in
      f.now ∙ rw (k, all!)

  filling_end : (index₀ index : List ℕ) (place i : ℕ) → Filling index₀ index place i → length list ≤ place → index ≡ places ++ drop (length places) index₀
  filling_end index₀ index place i f h = all_done index₀ index place i f (cc (from_end byte n list place f.turns h, f.rest))

  -- no entry of the index is left
  pub filling_full : (index₀ index : List ℕ) (place i : ℕ) → Filling index₀ index place i → length places ≤ length index₀ → length index₀ ≤ i
      → index ≡ places ++ drop (length places) index₀
  filling_full index₀ index place i f room h =
      all_done index₀ index place i f (nil_from_length f.left (omega (arith, ap length f.whole, length-append f.done f.left, f.count)))

  module _ (index₀ index : List ℕ) (place i : ℕ) (f : Filling index₀ index place i) (inside : place < length list) where
    -- another edit may begin, so there is a turn left
    more : (turns : ℕ) → edits_from byte n list turns place ≡ all f.left → (t : ℕ) × (turns ≡ suc t)
    more zero e = absurd (let z : ◌≡◌ {A = ℕ} 0 1 = cc (from_many byte n list place inside) in omega arith)
    more (suc t) e = (t, refl)

    turn : (t : ℕ) × (edits_from byte n list (suc t) place ≡ all f.left)
    turn = let m = more f.turns f.rest in (m.0, ap (λ (k : ℕ). edits_from byte n list k place) (sym m.1) ∙ f.rest)

    no_bad : {f : EditFault} → edit_of byte n (drop place list) ≡ Err f → ⊥
    no_bad {f} e = let z : ◌≡◌ {A = ℕ} 0 1 = cc (from_bad byte n list place inside turn.0 {f = f} e, turn.1) in omega arith

    module _ (size : ℕ) (e : edit_of byte n (drop place list) ≡ Ok size) (room : length places ≤ length index₀) where
      Rest : Type 0
      Rest = (l : List ℕ) × (edits_from byte n list turn.0 (place + size) ≡ all l) × (f.left ≡ place ∷ l)

      behind : Rest
      unfolding Rest
      behind = go (edits_from byte n list turn.0 (place + size)) refl
        where
          same : with_place place (edits_from byte n list turn.0 (place + size)) ≡ all f.left
          same = sym (from_good byte n list place inside turn.0 size e) ∙ turn.1

          go : (x : Listed) → edits_from byte n list turn.0 (place + size) ≡ x
              → (l : List ℕ) × (edits_from byte n list turn.0 (place + size) ≡ all l) × (f.left ≡ place ∷ l)
          go (all l) q = (l, q, cc (same, ap (with_place place) q))
          go (bad why) q = absurd (let z : ◌≡◌ {A = ℕ} 0 1 = cc (same, ap (with_place place) q) in omega arith)

      room_left : i < length index₀
      unfolding Rest
      room_left =
          omega (arith, ap length f.whole, length-append f.done f.left, ap length behind.2, f.count)

      pub filling_next : Filling index₀ (set index i place) (place + size) (i + 1)
      unfolding Rest
      filling_next =
          record {
            done = f.done ++ (place ∷ []);
            left = behind.0;
            turns = turn.0;
            rest = behind.1;
            whole = f.whole ∙ ap (λ (l : List ℕ). f.done ++ l) behind.2 ∙ sym (append_assoc f.done (place ∷ []) behind.0);
            count = omega (arith, length-append f.done (place ∷ []), f.count);
            now =
                ap (λ (l : List ℕ). set l i place) (f.now ∙ ap (λ (l : List ℕ). f.done ++ l) (drop-cons index₀ i 0 room_left))
                ∙ set_at f.done (get_or index₀ i 0) (drop (suc i) index₀) place i f.count
                ∙ sym (append_assoc f.done (place ∷ []) (drop (i + 1) index₀) ∙ ap (λ (k : ℕ). f.done ++ (place ∷ drop k index₀)) (add-one i));
          }

  -- where no edit can be read, the list has ended
  pub filling_stop : (index₀ index : List ℕ) (place i : ℕ) → Filling index₀ index place i → {fault : EditFault} → edit_of byte n (drop place list) ≡ Err fault
      → index ≡ places ++ drop (length places) index₀
  filling_stop index₀ index place i f e =
      by_cases (dec_lt place (length list))
      (λ inside. absurd (no_bad index₀ index place i f inside e))
      (λ end. filling_end index₀ index place i f (omega arith))
