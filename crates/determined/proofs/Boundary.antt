-- What C and Rust call, and the replies: the proofs that any two outcomes allowed are the same.
use mathlib.Core.Path.{refl}
use Rattle.determined.specs.Boundary.{Boundary}
use Rattle.determined.proofs.Law.{one, same, by_answer, clauses_3}

pub boundary : Boundary
boundary = record {
  reply_header_reply = λ m k o o'. by_answer k o o' refl;
  reply_name_number = λ m k o o'. by_answer k o o' refl;
  reply_start_reply = λ m k o o'. by_answer k o o' refl;
  reply_step_reply = λ m k o o'. by_answer k o o' refl;
  reply_walk_reply = λ m k o o'. by_answer k o o' refl;
  reply_prefix_step_reply = λ m k o o'. by_answer k o o' refl;
  reply_check_reply = λ m k o o'. by_answer k o o' refl;
  reply_lookup_reply = λ m k o o'. by_answer k o o' refl;
  reply_prefix_reply = λ m k o o'. by_answer k o o' refl;
  reply_ask_reply = λ m k o o'. by_answer k o o' refl;
  reply_loose_reply = λ m k o o'. by_answer k o o' refl;
  reply_merge_reply = λ m k o o'. clauses_3 m.𝓤 (λ p q. same k o o' (one p.0 q.0) (λ i. (tt, (tt, (tt, (one p.1.0 q.1.0 i, (one p.1.1 q.1.1 i, tt)))))));
  tell_parts_at = λ m k o o'. by_answer k o o' refl;
  tell_no_parts = λ m k o o'. by_answer k o o' refl;
  tell_refusal = λ m k o o'. by_answer k o o' refl;
  tell_fault_number = λ m k o o'. by_answer k o o' refl;
  tell_verdict_number = λ m k o o'. by_answer k o o' refl;
  packed_refs_header_lem = λ m k o o'. by_answer k o o' refl;
  packed_refs_name_lem = λ m k o o'. by_answer k o o' refl;
  packed_refs_start_lem = λ m k o o'. by_answer k o o' refl;
  packed_refs_step_lem = λ m k o o'. by_answer k o o' refl;
  packed_refs_walk_lem = λ m k o o'. by_answer k o o' refl;
  packed_refs_step_prefix_lem = λ m k o o'. by_answer k o o' refl;
  packed_refs_check_lem = λ m k o o'. by_answer k o o' refl;
  packed_refs_record_start_lem = λ m k o o'. by_answer k o o' refl;
  packed_refs_lookup_lem = λ m k o o'. by_answer k o o' refl;
  packed_refs_prefix_lem = λ m k o o'. by_answer k o o' refl;
  packed_refs_ask_lem = λ m k o o'. by_answer k o o' refl;
  packed_refs_loose_lem = λ m k o o'. by_answer k o o' refl;
  packed_refs_merge_lem = λ m k o o'. clauses_3 m.𝓤 (λ p q. same k o o' (one p.0 q.0) (λ i. (tt, (tt, (tt, (one p.1.0 q.1.0 i, (one p.1.1 q.1.1 i, tt)))))));
}
