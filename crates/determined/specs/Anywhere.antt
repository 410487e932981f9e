-- What C and Rust call: the same numbers and the same bytes give the same reply and leave the same memory, wherever the bytes lie and whenever the call is made.
use Rattle.std.specs.Prelude.{◌≡◌, List, [], ◌∷◌, ℕ}
use base.Logic.{ent}
use Rattle.std.specs.Borrow.{GName, Bor, MutBor}
use contract.Lifetimes.{Lfts}
use contract.Monad.{conj, fact}
use denote.Triple.Entry.{Args, Res}
use denote.Triple.Clauses.{Ended, Lasts}
use Rattle.host.specs.contracts.read.packed_refs_header
use Rattle.host.specs.contracts.read.packed_refs_name
use Rattle.host.specs.contracts.read.packed_refs_start
use Rattle.host.specs.contracts.read.packed_refs_step
use Rattle.host.specs.contracts.read.packed_refs_walk
use Rattle.host.specs.contracts.read.packed_refs_step_prefix
use Rattle.host.specs.contracts.read.packed_refs_check
use Rattle.host.specs.contracts.read.packed_refs_record_start
use Rattle.host.specs.contracts.read.packed_refs_lookup
use Rattle.host.specs.contracts.read.packed_refs_prefix
use Rattle.host.specs.contracts.read.packed_refs_ask
use Rattle.host.specs.contracts.read.packed_refs_loose
use Rattle.host.specs.contracts.write.packed_refs_merge
use Rattle.determined.specs.Outcomes.{Contract, Model, Call, Outcome, in_model, Allowed}

-- a parameter of what C and Rust call: a number, a list of numbers lent for reading, or one lent for writing
pub data Parameter : Type 0 where
  number : Parameter
  lent : Parameter
  written : Parameter

-- what a caller means: the numbers, and the numbers in each list
abbrev pub Values : List Parameter → Type 0
Values [] = Unit {0}
Values (number ∷ ps) = ℕ × Values ps
Values (lent ∷ ps) = List ℕ × Values ps
Values (written ∷ ps) = List ℕ × Values ps

-- where a list lies: a block of memory, a place in it, and the name under which the logic follows what stands there, if it is lent for writing
pub record Place : Type 0 where
  pub ptr : ℕ × ℕ
  pub name : GName

abbrev pub Places : List Parameter → Type 0
Places [] = Unit {0}
Places (number ∷ ps) = Places ps
Places (lent ∷ ps) = Place × Places ps
Places (written ∷ ps) = Place × Places ps

-- the arguments as the logic has them: the values at their places
abbrev pub Laid : List Parameter → Type 0
Laid [] = Unit {0}
Laid (number ∷ ps) = ℕ × Laid ps
Laid (lent ∷ ps) = Bor (List ℕ) × Laid ps
Laid (written ∷ ps) = MutBor (List ℕ) × Laid ps

abbrev pub laid : (ps : List Parameter) → Values ps → Places ps → Laid ps
laid [] v w = tt
laid (number ∷ ps) v w = (v.0, laid ps v.1 w)
laid (lent ∷ ps) v w = (record { ref_ptr = w.0.ptr; now = v.0 }, laid ps v.1 w.1)
laid (written ∷ ps) v w = (record { ref_ptr = w.0.ptr; ghost_name = w.0.name; now = v.0 }, laid ps v.1 w.1)

-- what the memory lent for writing holds afterwards
abbrev pub Left : List Parameter → Type 0
Left [] = Unit {0}
Left (number ∷ ps) = Unit {0} × Left ps
Left (lent ∷ ps) = Unit {0} × Left ps
Left (written ∷ ps) = List ℕ × Left ps

-- `takes`, `gives` and `leaves` hold a signature to its parameters: the arguments are values at places, the reply is an R, and the memory afterwards is what is lent for writing. Each use gives the identity for all three, and the prover takes that only where it is so.
module _ (T : Ended) (c : Contract T) (ps : List Parameter) {R : Type 0} (takes : (κs : Lfts T.signature.lifetimes) → Laid ps → Args T.signature κs)
    (gives : (κs : Lfts T.signature.lifetimes) → Res T.signature κs → R) (leaves : (κs : Lfts T.signature.lifetimes) (a : Args T.signature κs) → Lasts T κs a → Left ps) where
  -- a call of the values v, with lifetimes and places of its own
  pub record CallOf (m : Model) (v : Values ps) : Type 0 where
    pub lifetimes : Lfts T.signature.lifetimes
    pub places : Places ps
    pub bound : (in_model T c m lifetimes (takes lifetimes (laid ps v places))).ghost

  abbrev pub call_of : (m : Model) (v : Values ps) → CallOf m v → Call T c m
  call_of m v k = record { lifetimes = k.lifetimes; arguments = takes k.lifetimes (laid ps v k.places); bound = k.bound }

  abbrev pub told : (m : Model) (k : Call T c m) → Outcome T c m k → R × Left ps
  told m k o = (gives k.lifetimes o.answer, leaves k.lifetimes k.arguments o.lent)

  -- two calls of the same values: of any two outcomes that the contract allows, the reply and the memory afterwards are the same
  abbrev pub Anywhere : Type 2
  Anywhere = (m : Model) (v : Values ps) (k k' : CallOf m v) (o : Outcome T c m (call_of m v k)) (o' : Outcome T c m (call_of m v k'))
      → ent m.𝓤 (conj m.𝓤 (Allowed T c m (call_of m v k) o) (Allowed T c m (call_of m v k') o')) (fact m.𝓤 (told m (call_of m v k) o ≡ told m (call_of m v k') o'))

pub record Called : Type 2 where
  pub packed_refs_header_lem : Anywhere packed_refs_header.ended (λ M 𝓤. packed_refs_header.clauses) (lent ∷ []) (λ κs a. a) (λ κs r. r) (λ κs a l. l)
  pub packed_refs_name_lem : Anywhere packed_refs_name.ended (λ M 𝓤. packed_refs_name.clauses) (lent ∷ []) (λ κs a. a) (λ κs r. r) (λ κs a l. l)
  pub packed_refs_start_lem : Anywhere packed_refs_start.ended (λ M 𝓤. packed_refs_start.clauses) (number ∷ lent ∷ []) (λ κs a. a) (λ κs r. r) (λ κs a l. l)
  pub packed_refs_step_lem : Anywhere packed_refs_step.ended (λ M 𝓤. packed_refs_step.clauses) (number ∷ lent ∷ number ∷ []) (λ κs a. a) (λ κs r. r) (λ κs a l. l)
  pub packed_refs_walk_lem : Anywhere packed_refs_walk.ended (λ M 𝓤. packed_refs_walk.clauses) (number ∷ lent ∷ number ∷ number ∷ []) (λ κs a. a) (λ κs r. r) (λ κs a l. l)
  pub packed_refs_step_prefix_lem : Anywhere packed_refs_step_prefix.ended (λ M 𝓤. packed_refs_step_prefix.clauses) (number ∷ lent ∷ lent ∷ number ∷ []) (λ κs a. a) (λ κs r. r) (λ κs a l. l)
  pub packed_refs_check_lem : Anywhere packed_refs_check.ended (λ M 𝓤. packed_refs_check.clauses) (number ∷ lent ∷ []) (λ κs a. a) (λ κs r. r) (λ κs a l. l)
  pub packed_refs_record_start_lem : Anywhere packed_refs_record_start.ended (λ M 𝓤. packed_refs_record_start.clauses) (lent ∷ number ∷ []) (λ κs a. a) (λ κs r. r) (λ κs a l. l)
  pub packed_refs_lookup_lem : Anywhere packed_refs_lookup.ended (λ M 𝓤. packed_refs_lookup.clauses) (number ∷ lent ∷ lent ∷ []) (λ κs a. a) (λ κs r. r) (λ κs a l. l)
  pub packed_refs_prefix_lem : Anywhere packed_refs_prefix.ended (λ M 𝓤. packed_refs_prefix.clauses) (number ∷ lent ∷ lent ∷ []) (λ κs a. a) (λ κs r. r) (λ κs a l. l)
  pub packed_refs_ask_lem : Anywhere packed_refs_ask.ended (λ M 𝓤. packed_refs_ask.clauses) (number ∷ lent ∷ lent ∷ []) (λ κs a. a) (λ κs r. r) (λ κs a l. l)
  pub packed_refs_loose_lem : Anywhere packed_refs_loose.ended (λ M 𝓤. packed_refs_loose.clauses) (number ∷ lent ∷ []) (λ κs a. a) (λ κs r. r) (λ κs a l. l)
  pub packed_refs_merge_lem : Anywhere packed_refs_merge.ended (λ M 𝓤. packed_refs_merge.clauses) (number ∷ lent ∷ lent ∷ written ∷ written ∷ []) (λ κs a. a) (λ κs r. r) (λ κs a l. l)
