-- What C and Rust call: the proofs that the same numbers and the same bytes give the same reply and leave the same memory.
use Rattle.determined.specs.Anywhere.{Called}
use Rattle.determined.proofs.Law.{one, clauses_1, clauses_3}

pub called : Called
called = record {
  packed_refs_header_lem = λ m v k k' o o'. clauses_1 m.𝓤 (λ p q i. (one p q i, o.lent));
  packed_refs_name_lem = λ m v k k' o o'. clauses_1 m.𝓤 (λ p q i. (one p q i, o.lent));
  packed_refs_start_lem = λ m v k k' o o'. clauses_1 m.𝓤 (λ p q i. (one p q i, o.lent));
  packed_refs_step_lem = λ m v k k' o o'. clauses_1 m.𝓤 (λ p q i. (one p q i, o.lent));
  packed_refs_walk_lem = λ m v k k' o o'. clauses_1 m.𝓤 (λ p q i. (one p q i, o.lent));
  packed_refs_step_prefix_lem = λ m v k k' o o'. clauses_1 m.𝓤 (λ p q i. (one p q i, o.lent));
  packed_refs_check_lem = λ m v k k' o o'. clauses_1 m.𝓤 (λ p q i. (one p q i, o.lent));
  packed_refs_record_start_lem = λ m v k k' o o'. clauses_1 m.𝓤 (λ p q i. (one p q i, o.lent));
  packed_refs_lookup_lem = λ m v k k' o o'. clauses_1 m.𝓤 (λ p q i. (one p q i, o.lent));
  packed_refs_prefix_lem = λ m v k k' o o'. clauses_1 m.𝓤 (λ p q i. (one p q i, o.lent));
  packed_refs_ask_lem = λ m v k k' o o'. clauses_1 m.𝓤 (λ p q i. (one p q i, o.lent));
  packed_refs_loose_lem = λ m v k k' o o'. clauses_1 m.𝓤 (λ p q i. (one p q i, o.lent));
  packed_refs_merge_lem = λ m v k k' o o'. clauses_3 m.𝓤 (λ p q i. (one p.0 q.0 i, (tt, (tt, (tt, (one p.1.0 q.1.0 i, (one p.1.1 q.1.1 i, tt)))))));
}
