-- Document 01: "For every public function the stated claim determines the answer and the lent bytes afterwards, refusals too: prove that any two outcomes allowed are the same".
-- Of a function f the toolchain generates `f.clauses`, its contract as its author wrote it, and `f.ended`, its signature with a mark at each parameter whose value at exit the contract may speak of. `f.spec`, by which the function's own theorem is stated, is `closing` of these clauses. Here they are named as they are generated: there is no copy of a contract that could differ from it.
use Rattle.std.specs.Prelude.{◌≡◌}
use seplogic.Ra.Ura.{Ura}
use base.Logic.{SProp, ent}
use prog.Memory.{Memory}
use prog.Routine.{Routine}
use types.Logic.{Logic}
use contract.Lifetimes.{Lfts}
use contract.Monad.{Fun, conj, fact}
use denote.Triple.Entry.{Args, Res}
use denote.Triple.Clauses.{Ended, Clauses, Lasts, at_exit}

-- a contract of the signature T, as it is generated: for every model of the logic
abbrev pub Contract : Ended → Type 2
Contract T = (M : Type 1) (𝓤 : Ura M) (𝓛 : Logic 𝓤) → (Memory → SProp 𝓤) → (Routine → Fun 𝓤) → Clauses 𝓤 T

pub record Model : Type 2 where
  pub M : Type 1
  pub 𝓤 : Ura M
  pub 𝓛 : Logic 𝓤
  pub memory : Memory → SProp 𝓤
  pub run : Routine → Fun 𝓤

module _ (T : Ended) (c : Contract T) (m : Model) where
  abbrev pub in_model : Clauses m.𝓤 T
  in_model = c m.M m.𝓤 m.𝓛 m.memory m.run

  -- a call: the arguments (numbers, and what is lent as it is at the call), the lifetimes for which it is lent, and what the contract's author bound beside them
  pub record Call : Type 0 where
    pub lifetimes : Lfts T.signature.lifetimes
    pub arguments : Args T.signature lifetimes
    pub bound : (in_model lifetimes arguments).ghost

  -- what comes out of a call: the answer, and of each parameter what the memory that it lends for writing holds afterwards
  pub record Outcome (k : Call) : Type 0 where
    pub answer : Res T.signature k.lifetimes
    pub lent : Lasts T k.lifetimes k.arguments

  -- what the contract ensures, of an outcome
  abbrev pub Allowed : (k : Call) → Outcome k → SProp m.𝓤
  Allowed k o = (in_model k.lifetimes k.arguments).ensures k.bound o.answer (at_exit T k.lifetimes k.arguments o.lent)

module _ (T : Ended) (c : Contract T) where
  -- any two outcomes of a call that the contract allows are so to each other
  abbrev pub AllowedAre : ((m : Model) (k : Call T c m) → Outcome T c m k → Outcome T c m k → Type 0) → Type 2
  AllowedAre So = (m : Model) (k : Call T c m) (o o' : Outcome T c m k) → ent m.𝓤 (conj m.𝓤 (Allowed T c m k o) (Allowed T c m k o')) (fact m.𝓤 (So m k o o'))

  -- any two outcomes allowed are the same
  abbrev pub Determined : Type 2
  Determined = AllowedAre (λ m k o o'. o ≡ o')

  -- the same of a function whose answer is a reference into what is lent, up to where it points: what it shows is the same, and so is the lent memory afterwards
  abbrev pub DeterminedAs : {Shown : Type 0} → ((κs : Lfts T.signature.lifetimes) → Res T.signature κs → Shown) → Type 2
  DeterminedAs shown = AllowedAre (λ m k o o'. (shown k.lifetimes o.answer ≡ shown k.lifetimes o'.answer) × (o.lent ≡ o'.lent))
