-- What is written, and the merge: the proofs that any two outcomes allowed are the same.
use mathlib.Core.Path.{refl}
use Rattle.determined.specs.Merges.{Merges}
use Rattle.determined.proofs.Law.{one, same, by_answer, clauses_1, clauses_2, clauses_3}

pub merges : Merges
merges = record {
  hex_high = λ m k o o'. by_answer k o o' refl;
  hex_low = λ m k o o'. by_answer k o o' refl;
  put_byte = λ m k o o'. clauses_1 m.𝓤 (λ p q. same k o o' (one p.1 q.1) (λ i. (one p.0 q.0 i, (tt, (tt, tt)))));
  put_bytes = λ m k o o'. clauses_1 m.𝓤 (λ p q. same k o o' (one p.1 q.1) (λ i. (one p.0 q.0 i, (tt, (tt, tt)))));
  put_hex_lem = λ m k o o'. clauses_1 m.𝓤 (λ p q. same k o o' (one p.1 q.1) (λ i. (one p.0 q.0 i, (tt, (tt, tt)))));
  put_lf = λ m k o o'. clauses_1 m.𝓤 (λ p q. same k o o' (one p.1 q.1) (λ i. (one p.0 q.0 i, (tt, (tt, tt)))));
  lines_header = λ m k o o'. by_answer k o o' refl;
  lines_put_record = λ m k o o'. clauses_1 m.𝓤 (λ p q. same k o o' (one p.1 q.1) (λ i. (one p.0 q.0 i, (tt, (tt, (tt, tt))))));
  lines_put_peeled = λ m k o o'. clauses_1 m.𝓤 (λ p q. same k o o' (one p.1 q.1) (λ i. (one p.0 q.0 i, (tt, (tt, tt)))));
  runs_survey = λ m k o o'. clauses_2 m.𝓤 (λ p q. same k o o' (one p.0 q.0) (λ i. (tt, (tt, (tt, (tt, (tt, (one p.1 q.1 i, tt))))))));
  runs_is_still = λ m k o o'. by_answer k o o' refl;
  runs_mark_at = λ m k o o'. by_answer k o o' refl;
  merge_merge = λ m k o o'. clauses_3 m.𝓤 (λ p q. same k o o' (one p.0 q.0) (λ i. (tt, (tt, (tt, (one p.1.0 q.1.0 i, (one p.1.1 q.1.1 i, tt)))))));
  merge_with_digits_lem = λ m k o o'. clauses_3 m.𝓤 (λ p q. same k o o' (one p.0 q.0) (λ i. (tt, (tt, (tt, (one p.1.0 q.1.0 i, (one p.1.1 q.1.1 i, tt)))))));
  merge_from_not_admitted = λ m k o o'. by_answer k o o' refl;
  merge_from_not_prepared = λ m k o o'. by_answer k o o' refl;
  merge_from_bad_header = λ m k o o'. by_answer k o o' refl;
  merge_from_refusal = λ m k o o'. by_answer k o o' refl;
}
