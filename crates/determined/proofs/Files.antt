-- A file's header, records, start, items and check, and loose content: the proofs that any two outcomes allowed are the same.
use mathlib.Core.Path.{refl}
use Rattle.determined.specs.Files.{Files}
use Rattle.determined.proofs.Law.{one, same, by_answer, by_shown, clauses_1}

pub files : Files
files = record {
  header_read_header = λ m k o o'. by_answer k o o' refl;
  header_open = λ m k o o'. by_answer k o o' refl;
  decode_reference = λ m k o o'. by_answer k o o' refl;
  decode_name_of = λ m k o o'. by_shown k o o' refl;
  start_begin = λ m k o o'. by_answer k o o' refl;
  start_begin_without_kind = λ m k o o'. by_answer k o o' refl;
  iter_next_lem = λ m k o o'. by_answer k o o' refl;
  iter_next_with_prefix = λ m k o o'. by_answer k o o' refl;
  iter_next_on_line = λ m k o o'. by_answer k o o' refl;
  iter_next_with_digits = λ m k o o'. by_answer k o o' refl;
  walker_walk = λ m k o o'. by_answer k o o' refl;
  line_number_line_number = λ m k o o'. by_answer k o o' refl;
  line_number_more_lines = λ m k o o'. by_answer k o o' refl;
  line_number_text_len = λ m k o o'. by_answer k o o' refl;
  line_number_behind = λ m k o o'. by_answer k o o' refl;
  iterator_new = λ m k o o'. by_answer k o o' refl;
  iterator_next_lem = λ m k o o'. clauses_1 m.𝓤 (λ p q. same k o o' (one p.0 q.0) (λ i. (one p.1 q.1 i, tt)));
  iterator_first = λ m k o o'. by_answer k o o' refl;
  checks_check = λ m k o o'. by_answer k o o' refl;
  checks_check_with_digits = λ m k o o'. by_answer k o o' refl;
  checks_check_from = λ m k o o'. by_answer k o o' refl;
  checks_refused = λ m k o o'. by_answer k o o' refl;
  checks_take_turn = λ m k o o'. by_answer k o o' refl;
  checks_from_bad_header = λ m k o o'. by_answer k o o' refl;
  loose_read = λ m k o o'. by_answer k o o' refl;
  loose_read_with_digits = λ m k o o'. by_answer k o o' refl;
  loose_target_of = λ m k o o'. by_shown k o o' refl;
}
