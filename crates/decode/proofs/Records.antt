-- Records by their two lines: what a good one is made of, how long it is, and that its own bytes determine it.
use mathlib.Core.Path.{◌≡◌, refl, sym, ap, ◌∙◌}
use mathlib.Core.Bool.{Bool, true, false}
use mathlib.Core.List.{List}
use Prim.Native.Nat.{ℕ, suc, ◌+◌, ◌-◌, ◌≤◌, ◌<◌}
use native.Mathlib.Nat.{zero-add}
use native.Mathlib.Omega.{arith}
use lib.ListN.{get_or, length, take, drop, length-drop}
use lib.Seq.{drop-drop}
use Rattle.class.specs.Class.{Classes}
use Rattle.parse.specs.Run.{span}
use Rattle.parse.specs.Part.{byte_at}
use Rattle.id.specs.Id.{id_at}
use Rattle.parse.specs.Line.{eol, text_len, text_at, text_ends}
use Rattle.parse.proofs.Fronts.{eol_le}
use Rattle.id.proofs.Ids.{IdView, id, no_id, id_view}
use Rattle.parse.proofs.Views.{ByteView, there, not_there, byte_view, NewlineView, newline, no_newline, newline_view, text_end, TextView, text, no_text, text_view}
use Rattle.name.specs.Name.{valid_name}
use Rattle.decode.specs.declared.reference.Fault.{Fault}
use Rattle.decode.specs.declared.reference.Fault.TheVariants.{Id, Space, LineEnd, Name, Peeled}
use Rattle.decode.specs.declared.reference.Record.{Record}
use Rattle.decode.specs.Record.{record_of}
use Rattle.decode.proofs.Parts as parts
use Rattle.std.specs.declared.option.Option.{Option}
use Rattle.std.specs.declared.option.Option.TheVariants.{None, Some}
use Rattle.std.specs.declared.result.Result.{Result}
use Rattle.std.specs.declared.result.Result.TheVariants.{Err, Ok}

pub good_alike : {a a' z z' : ℕ} {o o' : Option ℕ} → a ≡ a' → o ≡ o' → z ≡ z'
    → ◌≡◌ {A = Result Record Fault} (Ok (record { name_len = a; peeled = o; size = z })) (Ok (record { name_len = a'; peeled = o'; size = z' }))
good_alike p q r = λ i. Ok (record { name_len = p i; peeled = q i; size = r i })

module _ (byte : Classes) (n : ℕ) where
  -- ---- the two lines of a record. A length says how far the line goes where it can be read

  abbrev pub name_len : List ℕ → ℕ
  name_len s = text_len byte (drop (suc n) s)

  abbrev pub after_name : List ℕ → List ℕ
  after_name s = drop (name_len s) (drop (suc n) s)

  unfoldable pub head_len : List ℕ → ℕ
  head_len s = suc n + name_len s + eol (after_name s)

  pub record Head (s : List ℕ) : Type 0 where
    pub id : n ≤ span byte.hex s
    pub space : get_or s n 0 ≡ 32
    pub name : valid_name byte (take (name_len s) (drop (suc n) s)) ≡ true
    pub end : 0 < eol (after_name s)

  unfoldable pub peel_len : List ℕ → ℕ
  peel_len s = suc n + eol (drop (suc n) s)

  pub record Peel (s : List ℕ) : Type 0 where
    pub id : n ≤ span byte.hex (drop 1 s)
    pub end : 0 < eol (drop (suc n) s)

  -- ---- what a record is

  pub data View (s : List ℕ) : Type 0 where
    is_bad_lem : (f : Fault) → (Head s → (get_or s (head_len s) 0 ≡ 94 → Peel (drop (head_len s) s)) → ⊥) → record_of byte n s ≡ Err f → View s
    plain : Head s → (get_or s (head_len s) 0 ≡ 94 → ⊥) → record_of byte n s ≡ Ok (record { name_len = name_len s; peeled = None; size = head_len s }) → View s
    peeled : Head s → get_or s (head_len s) 0 ≡ 94 → Peel (drop (head_len s) s)
        → record_of byte n s ≡ Ok (record { name_len = name_len s; peeled = Some (suc (head_len s)); size = head_len s + peel_len (drop (head_len s) s) }) → View s

  -- the places that the reading goes through, by the two lines' lengths
  module _ (s : List ℕ) where
    abbrev from : ℕ
    from = 0 + n + 1

    abbrev end : ℕ
    end = text_end byte s from

    abbrev next : ℕ
    next = end + eol (drop end s)

    from_is : from ≡ suc n
    from_is = omega arith

    name_drop : drop from s ≡ drop (suc n) s
    name_drop = ap (λ (k : ℕ). drop k s) from_is

    len_is : text_len byte (drop from s) ≡ name_len s
    len_is = ap (text_len byte) name_drop

    size_is : end - from ≡ name_len s
    size_is = omega (arith, len_is)

    end_drop : drop end s ≡ after_name s
    end_drop =
        let e : end ≡ suc n + name_len s = omega (arith, len_is, from_is) in
        ap (λ (k : ℕ). drop k s) e ∙ sym (drop-drop (name_len s) (suc n) s)

    next_is : next ≡ head_len s
    unfolding head_len
    next_is = omega (arith, len_is, ap eol end_drop)

    name_is : take (end - from) (drop from s) ≡ take (name_len s) (drop (suc n) s)
    name_is = ap (λ (k : ℕ). take k (drop from s)) size_is ∙ ap (take (name_len s)) name_drop

    past_is : (k : ℕ) → drop (next + k) s ≡ drop k (drop (head_len s) s)
    past_is k = let e : next + k ≡ head_len s + k = omega (arith, next_is) in ap (λ (j : ℕ). drop j s) e ∙ sym (drop-drop k (head_len s) s)

    -- the first line was read
    module _
        (digits : n ≤ span byte.hex s)
        (id_at_lem : id_at byte n s 0 ≡ Some (0 + n))
        (blank : get_or s (0 + n) 0 ≡ 32)
        (space-at : byte_at 32 s (0 + n) ≡ Some from)
        (ends : 0 < eol (drop end s))
        (text_at_lem : text_at byte s from ≡ text_ends end next)
        (valid : valid_name byte (take (end - from) (drop from s)) ≡ true)
      where
        head : Head s
        head =
            record {
              id = digits;
              space = ap (λ (k : ℕ). get_or s k 0) (sym (zero-add n)) ∙ blank;
              name = ap (valid_name byte) (sym name_is) ∙ valid;
              end = omega (arith, ap eol end_drop);
            }

        next_byte : (b : ℕ) → get_or s next 0 ≡ b → get_or s (head_len s) 0 ≡ b
        next_byte b e = ap (λ (k : ℕ). get_or s k 0) (sym next_is) ∙ e

        next_suc : next + 1 + n ≡ next + suc n
        next_suc = omega arith

        second_line_lem : get_or s next 0 ≡ 94 → byte_at 94 s next ≡ Some (next + 1) → IdView byte n s (next + 1) → NewlineView s (next + 1 + n) → View s
        unfolding peel_len
        second_line_lem c caret-at (no_id h e) w =
            is_bad_lem Peeled (λ q p. omega (arith, (p (next_byte 94 c)).id, ap (span byte.hex) (past_is 1)))
            (parts.no_peeled_id byte n s id_at_lem space-at text_at_lem valid caret-at e)
        second_line_lem c caret-at (id h e) (no_newline z f) =
            is_bad_lem Peeled (λ q p. omega (arith, (p (next_byte 94 c)).end, ap eol (past_is (suc n)), ap (λ (k : ℕ). eol (drop k s)) next_suc))
            (parts.no_peeled_end byte n s id_at_lem space-at text_at_lem valid caret-at e f)
        second_line_lem c caret-at (id h e) (newline some f) =
            let d1 : drop (next + 1) s ≡ drop 1 (drop (head_len s) s) = past_is 1 in
            let d2 : drop (next + 1 + n) s ≡ drop (suc n) (drop (head_len s) s) = ap (λ (k : ℕ). drop k s) next_suc ∙ past_is (suc n) in
            let l : eol (drop (next + 1 + n) s) ≡ eol (drop (suc n) (drop (head_len s) s)) = ap eol d2 in
            peeled head (next_byte 94 c) (record { id = rw d1 at h; end = omega arith })
            (parts.peeled_record byte n s id_at_lem space-at text_at_lem valid caret-at e f ∙ good_alike size_is (ap Some (omega (arith, next_is))) (omega (arith, next_is)))

        behind_first : ByteView 94 s next → View s
        behind_first (there l c caret-at) = second_line_lem c caret-at (id_view byte n s (next + 1)) (newline_view s (next + 1 + n))
        behind_first (not_there other e) =
            plain head (λ z. other (ap (λ (k : ℕ). get_or s k 0) next_is ∙ z))
            (parts.plain_record byte n s id_at_lem space-at text_at_lem valid e ∙ good_alike size_is refl next_is)

    view_text : n ≤ span byte.hex s → id_at byte n s 0 ≡ Some (0 + n) → get_or s (0 + n) 0 ≡ 32 → byte_at 32 s (0 + n) ≡ Some from
        → TextView byte s from → (v : Bool) → valid_name byte (take (end - from) (drop from s)) ≡ v → View s
    view_text i p b q (no_text z e) v w = is_bad_lem LineEnd (λ h c. omega (arith, h.end, ap eol end_drop)) (parts.no_line_end byte n s p q e)
    view_text i p b q (text some e) false w =
        is_bad_lem Name (λ h c. let x : false ≡ true = sym w ∙ ap (valid_name byte) name_is ∙ h.name in let y : ◌≡◌ {A = ℕ} 0 1 = cc in omega arith)
        (parts.no_name byte n s p q e w)
    view_text i p b q (text some e) true w = behind_first i p b q some e w (byte_view 94 (omega arith) s next)

    view_space : n ≤ span byte.hex s → id_at byte n s 0 ≡ Some (0 + n) → ByteView 32 s (0 + n) → View s
    view_space i p (not_there other e) = is_bad_lem Space (λ h c. other (ap (λ (k : ℕ). get_or s k 0) (zero-add n) ∙ h.space)) (parts.no_space byte n s p e)
    view_space i p (there l b q) = view_text i p b q (text_view byte s from) (valid_name byte (take (end - from) (drop from s))) refl

    view_id : IdView byte n s 0 → View s
    view_id (no_id h e) = is_bad_lem Id (λ q c. omega (arith, q.id)) (parts.no_id byte n s e)
    view_id (id h e) = view_space h e (byte_view 32 (omega arith) s (0 + n))

  pub view : (s : List ℕ) → View s
  view s = view_id s (id_view byte n s 0)

  -- ---- sizes: a good record lies inside the bytes, and its name inside it

  head_fits : (s : List ℕ) → Head s → (head_len s ≤ length s) × (suc n + name_len s < head_len s)
  unfolding head_len
  head_fits s h =
      let d = length-drop (suc n) s in
      let e = length-drop (name_len s) (drop (suc n) s) in
      (omega (arith, eol_le (after_name s), h.end), omega (arith, h.end))

  peel_fits : (s : List ℕ) → Peel s → (peel_len s ≤ length s) × (suc n < peel_len s)
  unfolding peel_len
  peel_fits s p = (omega (arith, eol_le (drop (suc n) s), length-drop (suc n) s, p.end), omega (arith, p.end))

  -- a good record fits
  pub record Fits (s : List ℕ) (r : Record) : Type 0 where
    pub inside : r.size ≤ length s
    pub holds : suc n + r.name_len < r.size
    pub peeled : (at : ℕ) → r.peeled ≡ Some at → (suc n + r.name_len < at) × (at + n < r.size)

  pub fits : (s : List ℕ) (r : Record) → record_of byte n s ≡ Ok r → Fits s r
  fits s r e = go (view s)
    where
      go : View s → Fits s r
      go (is_bad_lem f x q) = absurd (let z : ◌≡◌ {A = ℕ} 0 1 = cc in omega arith)
      go (plain h c q) =
          let w : r ≡ record { name_len = name_len s; peeled = None; size = head_len s } = cc in
          let z = head_fits s h in
          rw w (record { inside = z.0; holds = z.1; peeled = λ at e. absurd (let y : ◌≡◌ {A = ℕ} 0 1 = cc in omega arith) })
      go (peeled h c p q) =
          let w : r ≡ record { name_len = name_len s; peeled = Some (suc (head_len s)); size = head_len s + peel_len (drop (head_len s) s) } = cc in
          let z = head_fits s h in
          let y = peel_fits (drop (head_len s) s) p in
          let l = length-drop (head_len s) s in
          rw w (record { inside = omega (arith, z.0, y.0); holds = omega (arith, z.1); peeled = λ at e. let q : suc (head_len s) ≡ at = cc in (omega (arith, z.1), omega (arith, y.1)) })

  -- ---- locality: a good record is determined by its bytes and the byte behind them

  pub plain_is : (s : List ℕ) → Head s → (get_or s (head_len s) 0 ≡ 94 → ⊥) → record_of byte n s ≡ Ok (record { name_len = name_len s; peeled = None; size = head_len s })
  plain_is s h c = go (view s)
    where
      go : View s → record_of byte n s ≡ Ok (record { name_len = name_len s; peeled = None; size = head_len s })
      go (is_bad_lem f whole e) = absurd (whole h (λ z. absurd (c z)))
      go (plain k d e) = e
      go (peeled k d p e) = absurd (c d)

  pub peeled_is : (s : List ℕ) → Head s → get_or s (head_len s) 0 ≡ 94 → Peel (drop (head_len s) s)
      → record_of byte n s ≡ Ok (record { name_len = name_len s; peeled = Some (suc (head_len s)); size = head_len s + peel_len (drop (head_len s) s) })
  peeled_is s h c p = go (view s)
    where
      go : View s
          → record_of byte n s ≡ Ok (record { name_len = name_len s; peeled = Some (suc (head_len s)); size = head_len s + peel_len (drop (head_len s) s) })
      go (is_bad_lem f whole e) = absurd (whole h (λ z. p))
      go (plain k d e) = absurd (d c)
      go (peeled k d q e) = e
