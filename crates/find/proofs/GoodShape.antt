-- A good record has the shape, with its own name: so a probe of it reads its name.
use mathlib.Core.Path.{◌≡◌, refl, sym, ap, ◌∙◌}
use mathlib.Core.Bool.{true, false}
use mathlib.Core.List.{List}
use Prim.Native.Nat.{ℕ, suc, ◌+◌, ◌<◌}
use native.Mathlib.Numerals.{add-one}
use native.Mathlib.Omega.{arith}
use lib.ListN.{take, drop, length-take}
use lib.Seq.{drop-drop}
use Rattle.class.specs.Class.{paper}
use Rattle.compare.specs.Order.{order_of}
use Rattle.parse.specs.Line.{text_len}
use Rattle.parse.proofs.Views.{text_end}
use Rattle.name.proofs.Laws.{valid_some}
use Rattle.decode.specs.declared.reference.Record.{Record}
use Rattle.decode.specs.Record.{record_of}
use Rattle.probe.specs.Shape.{shape_of}
use Rattle.decode.proofs.Records.{name_len, after_name, Head, View, is_bad_lem, plain, peeled, view}
use Rattle.probe.proofs.Shapes.{shape_len, ShapeView, named, shapeless, shape_view}
use Rattle.iter.specs.Items.{item_of, name_of}
use Rattle.checks.specs.Passes.{is_good}
use Rattle.iter.proofs.Turns.{item_name}
use Rattle.search.specs.Search.{probed_of}
use Rattle.std.specs.declared.option.Option.TheVariants.{Some}
use Rattle.std.specs.declared.result.Result.{Result}
use Rattle.std.specs.declared.result.Result.TheVariants.{Err, Ok}
use Rattle.decode.specs.declared.reference.Fault.{Fault}

module _ (n : ℕ) (t : List ℕ) where
  -- a valid name is not empty
  name_some : Head paper n t → 0 < name_len paper n t
  name_some h =
      omega (arith, valid_some paper (take (name_len paper n t) (drop (suc n) t)) h.name, length-take (name_len paper n t) (drop (suc n) t))

  head_shape : Head paper n t → shape_of paper n t ≡ Some (name_len paper n t)
  head_shape h = go (shape_view paper n t)
    where
      len : shape_len paper n t ≡ name_len paper n t
      len = ap (λ (k : ℕ). text_len paper (drop k t)) (add-one n)

      behind : drop (text_end paper t (n + 1)) t ≡ after_name paper n t
      behind =
          let z : text_end paper t (n + 1) ≡ suc n + name_len paper n t = omega (arith, len) in
          ap (λ (k : ℕ). drop k t) z ∙ sym (drop-drop (name_len paper n t) (suc n) t)

      go : ShapeView paper n t → shape_of paper n t ≡ Some (name_len paper n t)
      go (named l s e) = e ∙ ap Some len
      go (shapeless lacks e) = absurd (lacks (record { space = h.space; some = omega (arith, len, name_some h); end = rw behind h.end }))

  good_shape : (r : Record) → record_of paper n t ≡ Ok r → shape_of paper n t ≡ Some r.name_len
  good_shape r e = go (view paper n t)
    where
      by : Head paper n t → name_len paper n t ≡ r.name_len → shape_of paper n t ≡ Some r.name_len
      by h z = head_shape h ∙ ap Some z

      go : View paper n t → shape_of paper n t ≡ Some r.name_len
      go (is_bad_lem f w q) = absurd (let z : ◌≡◌ {A = ℕ} 0 1 = cc in omega arith)
      go (plain h c q) = by h (cc)
      go (peeled h c p q) = by h (cc)

  pub good_probed : (wanted : List ℕ) → is_good (record_of paper n t) ≡ true
      → probed_of paper n t wanted ≡ record { order = order_of (name_of n (item_of paper n t)) wanted; failed = false }
  unfolding probed_of
  good_probed wanted g = go (record_of paper n t) refl g
    where
      go : (w : Result Record Fault) → record_of paper n t ≡ w → is_good w ≡ true
          → probed_of paper n t wanted ≡ record { order = order_of (name_of n (item_of paper n t)) wanted; failed = false }
      go (Err f) e h = cc
      go (Ok r) e h = rw (good_shape r e, item_name paper n t r e)
