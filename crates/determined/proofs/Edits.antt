-- Edits, their names and their order: the proofs that any two outcomes allowed are the same.
use mathlib.Core.Path.{refl}
use Rattle.determined.specs.Edits.{Edits}
use Rattle.determined.proofs.Law.{one, same, by_answer, by_shown, clauses_1, clauses_2}

pub edits : Edits
edits = record {
  length_length_at = λ m k o o'. by_answer k o o' refl;
  parts_edit_kind = λ m k o o'. by_answer k o o' refl;
  parts_edit_name = λ m k o o'. by_shown k o o' refl;
  parts_edit_id = λ m k o o'. by_shown k o o' refl;
  parts_edit_peeled = λ m k o o'. by_shown k o o' refl;
  places_comes_first = λ m k o o'. by_answer k o o' refl;
  places_same_name = λ m k o o'. by_answer k o o' refl;
  sort_sort = λ m k o o'. clauses_1 m.𝓤 (λ p q. same k o o' refl (λ i. (one p q i, (tt, (tt, tt)))));
  sort_first_twin = λ m k o o'. by_answer k o o' refl;
  edit_read = λ m k o o'. by_answer k o o' refl;
  edits_prepare = λ m k o o'. clauses_2 m.𝓤 (λ p q. same k o o' (one p.0 q.0) (λ i. (tt, (tt, (one p.1 q.1 i, tt)))));
  edits_from_list_fault = λ m k o o'. by_answer k o o' refl;
}
