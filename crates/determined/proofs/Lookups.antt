-- Lookup, prefix listing and the lookup that can be trusted on any bytes: the proofs that any two outcomes allowed are the same.
use mathlib.Core.Path.{refl}
use Rattle.determined.specs.Lookups.{Lookups}
use Rattle.determined.proofs.Law.{by_answer}

pub lookups : Lookups
lookups = record {
  probe_name_at_record_start = λ m k o o'. by_answer k o o' refl;
  probe_record_start = λ m k o o'. by_answer k o o' refl;
  probe_record_start_far = λ m k o o'. by_answer k o o' refl;
  search_search = λ m k o o'. by_answer k o o' refl;
  find_find = λ m k o o'. by_answer k o o' refl;
  find_find_with_digits = λ m k o o'. by_answer k o o' refl;
  find_begin = λ m k o o'. by_answer k o o' refl;
  find_begin_with_digits = λ m k o o'. by_answer k o o' refl;
  ask_ask = λ m k o o'. by_answer k o o' refl;
  ask_ask_with_digits = λ m k o o'. by_answer k o o' refl;
}
