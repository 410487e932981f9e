-- The one law: two things that are equal to the same are equal. And its forms, by what a contract states.
use mathlib.Core.Path.{◌≡◌, sym, ◌∙◌}
use seplogic.Ra.Ura.{Ura}
use base.Logic.{SProp, ent, sep, via, id⊢, fst∗, snd∗}
use contract.Monad.{conj, conj_l, conj_r, fact, fact_i, fact_use}
use denote.Triple.Entry.{Res}
use denote.Triple.Clauses.{Ended}
use Rattle.determined.specs.Outcomes.{Contract, Model, Call, Outcome}

pub one : {A : Type 0} {x y d : A} → x ≡ d → y ≡ d → x ≡ y
one p q = p ∙ sym q

module _ {M : Type 1} (𝓤 : Ura M) where
  -- what two clauses say together
  both : {Q : SProp 𝓤} {φ ψ : Type 0} → ent 𝓤 Q (fact 𝓤 ψ) → ent 𝓤 (sep 𝓤 (fact 𝓤 φ) Q) (fact 𝓤 (φ × ψ))
  both {Q} {φ} {ψ} q =
      let P : SProp 𝓤 = fact 𝓤 φ in
      fact_use 𝓤 φ (fst∗ 𝓤 P Q) (λ x. fact_use 𝓤 ψ (via 𝓤 Q (snd∗ 𝓤 P Q) q) (λ y. fact_i 𝓤 (φ × ψ) (sep 𝓤 P Q) (x, y)))

  -- what follows from what is said of each of two outcomes
  follows : {P Q : SProp 𝓤} {φ ψ X : Type 0} → ent 𝓤 P (fact 𝓤 φ) → ent 𝓤 Q (fact 𝓤 ψ) → (φ → ψ → X) → ent 𝓤 (conj 𝓤 P Q) (fact 𝓤 X)
  follows {P} {Q} {φ} {ψ} {X} p q f =
      fact_use 𝓤 φ (via 𝓤 P (conj_l 𝓤 P Q) p) (λ x. fact_use 𝓤 ψ (via 𝓤 Q (conj_r 𝓤 P Q) q) (λ y. fact_i 𝓤 X (conj 𝓤 P Q) (f x y)))

  -- the same of a contract of one clause, of two and of three
  pub clauses_1 : {φ φ' X : Type 0} → (φ → φ' → X) → ent 𝓤 (conj 𝓤 (fact 𝓤 φ) (fact 𝓤 φ')) (fact 𝓤 X)
  clauses_1 {φ} {φ'} f = follows (id⊢ 𝓤 (fact 𝓤 φ)) (id⊢ 𝓤 (fact 𝓤 φ')) f

  pub clauses_2 : {φ φ' ψ ψ' X : Type 0} → (φ × ψ → φ' × ψ' → X) → ent 𝓤 (conj 𝓤 (sep 𝓤 (fact 𝓤 φ) (fact 𝓤 ψ)) (sep 𝓤 (fact 𝓤 φ') (fact 𝓤 ψ'))) (fact 𝓤 X)
  clauses_2 {φ} {φ'} {ψ} {ψ'} f = follows (both {φ = φ} (id⊢ 𝓤 (fact 𝓤 ψ))) (both {φ = φ'} (id⊢ 𝓤 (fact 𝓤 ψ'))) f

  pub clauses_3 : {φ φ' ψ ψ' χ χ' X : Type 0} → (φ × (ψ × χ) → φ' × (ψ' × χ') → X)
      → ent 𝓤 (conj 𝓤 (sep 𝓤 (fact 𝓤 φ) (sep 𝓤 (fact 𝓤 ψ) (fact 𝓤 χ))) (sep 𝓤 (fact 𝓤 φ') (sep 𝓤 (fact 𝓤 ψ') (fact 𝓤 χ')))) (fact 𝓤 X)
  clauses_3 {φ} {φ'} {ψ} {ψ'} {χ} {χ'} f = follows (both {φ = φ} (both {φ = ψ} (id⊢ 𝓤 (fact 𝓤 χ)))) (both {φ = φ'} (both {φ = ψ'} (id⊢ 𝓤 (fact 𝓤 χ')))) f

module _ {T : Ended} {c : Contract T} {m : Model} (k : Call T c m) (o o' : Outcome T c m k) where
  -- outcomes of equal parts are equal. `lent` has a part for each parameter, in order, which is `tt` where nothing is lent for writing
  pub same : o.answer ≡ o'.answer → o.lent ≡ o'.lent → o ≡ o'
  same p q i = record { answer = p i; lent = q i }

  -- a contract of one clause that gives the answer, of a function that is lent nothing for writing
  pub by_answer : {d : Res T.signature k.lifetimes} → o.lent ≡ o'.lent → ent m.𝓤 (conj m.𝓤 (fact m.𝓤 (o.answer ≡ d)) (fact m.𝓤 (o'.answer ≡ d))) (fact m.𝓤 (o ≡ o'))
  by_answer l = clauses_1 m.𝓤 (λ p q. same (one p q) l)

  -- the same of a function that hands back a part of the lent bytes, and whose contract gives what that shows
  pub by_shown : {X : Type 0} {x y d : X} → o.lent ≡ o'.lent → ent m.𝓤 (conj m.𝓤 (fact m.𝓤 (x ≡ d)) (fact m.𝓤 (y ≡ d))) (fact m.𝓤 ((x ≡ y) × (o.lent ≡ o'.lent)))
  by_shown l = clauses_1 m.𝓤 (λ p q. (one p q, l))
