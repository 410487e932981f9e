-- Edits, their names and their order: any two outcomes allowed are the same.
use Rattle.length.specs.contracts.length_at
use Rattle.parts.specs.contracts.edit_kind
use Rattle.parts.specs.contracts.edit_name
use Rattle.parts.specs.contracts.edit_id
use Rattle.parts.specs.contracts.edit_peeled
use Rattle.places.specs.contracts.name.comes_first
use Rattle.places.specs.contracts.name.same_name
use Rattle.sort.specs.contracts.sort
use Rattle.sort.specs.contracts.twin.first_twin
use Rattle.edit.specs.contracts.read
use Rattle.edits.specs.contracts.list.prepare
use Rattle.edits.specs.contracts.list.NotPreparedFromListFault.from as from_list_fault
use Rattle.determined.specs.Outcomes.{Determined, DeterminedAs}

pub record Edits : Type 2 where
  pub length_length_at : Determined length_at.ended (λ M 𝓤. length_at.clauses)
  pub parts_edit_kind : Determined edit_kind.ended (λ M 𝓤. edit_kind.clauses)
  pub parts_edit_name : DeterminedAs edit_name.ended (λ M 𝓤. edit_name.clauses) (λ κs r. r.now)
  pub parts_edit_id : DeterminedAs edit_id.ended (λ M 𝓤. edit_id.clauses) (λ κs r. r.now)
  pub parts_edit_peeled : DeterminedAs edit_peeled.ended (λ M 𝓤. edit_peeled.clauses) (λ κs r. r.now)
  pub places_comes_first : Determined comes_first.ended (λ M 𝓤. comes_first.clauses)
  pub places_same_name : Determined same_name.ended (λ M 𝓤. same_name.clauses)
  pub sort_sort : Determined sort.ended (λ M 𝓤. sort.clauses)
  pub sort_first_twin : Determined first_twin.ended (λ M 𝓤. first_twin.clauses)
  pub edit_read : Determined read.ended (λ M 𝓤. read.clauses)
  pub edits_prepare : Determined prepare.ended (λ M 𝓤. prepare.clauses)
  pub edits_from_list_fault : Determined from_list_fault.ended (λ M 𝓤. from_list_fault.clauses)
