-- What follows from a strict total order.
use mathlib.Core.Path.{◌≡◌, refl, sym, ap, ◌∙◌}
use mathlib.Core.Bool.{Bool, true, false, true≢false}
use Prim.Native.Nat.{ℕ}
use Rattle.places.specs.Laws.{StrictOrder}

abbrev pub NotAfter : (ℕ → ℕ → Bool) → ℕ → ℕ → Type 0
NotAfter lt x y = lt y x ≡ false

module _ {lt : ℕ → ℕ → Bool} (o : StrictOrder lt) where
  pub not_back : (x y : ℕ) → lt x y ≡ true → lt y x ≡ false
  not_back x y h = go (lt y x) refl
    where
      go : (t : Bool) → lt y x ≡ t → lt y x ≡ false
      go true e = absurd (true≢false (sym (o.transitive x y x h e) ∙ o.irreflexive x))
      go false e = e

  pub not_before_trans : (x y z : ℕ) → lt x y ≡ false → lt y z ≡ false → lt x z ≡ false
  not_before_trans x y z h k = go (lt x z) refl (lt y x) refl
    where
      go : (t : Bool) → lt x z ≡ t → (u : Bool) → lt y x ≡ u → lt x z ≡ false
      go false e u f = e
      go true e true f = absurd (true≢false (sym (o.transitive y x z f e) ∙ k))
      go true e false f = absurd (true≢false (sym e ∙ ap (λ (v : ℕ). lt v z) (o.total x y h f) ∙ k))
