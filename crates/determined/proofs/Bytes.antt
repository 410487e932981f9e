-- Bytes, lines, ids, order and names: the proofs that any two outcomes allowed are the same.
use mathlib.Core.Path.{refl}
use Rattle.determined.specs.Bytes.{Bytes}
use Rattle.determined.proofs.Law.{by_answer, by_shown}

pub bytes : Bytes
bytes = record {
  class_table_lem = λ m k o o'. by_answer k o o' refl;
  class_is_hex = λ m k o o'. by_answer k o o' refl;
  class_is_forbidden = λ m k o o'. by_answer k o o' refl;
  class_is_line_end = λ m k o o'. by_answer k o o' refl;
  class_is_hex_digit = λ m k o o'. by_answer k o o' refl;
  class_is_cr_or_lf = λ m k o o'. by_answer k o o' refl;
  block_among16 = λ m k o o'. by_answer k o o' refl;
  block_among = λ m k o o'. by_answer k o o' refl;
  word_first_low = λ m k o o'. by_answer k o o' refl;
  word_last_low = λ m k o o'. by_answer k o o' refl;
  word_number = λ m k o o'. by_answer k o o' refl;
  parse_digits = λ m k o o'. by_answer k o o' refl;
  parse_over_limit = λ m k o o'. by_answer k o o' refl;
  parse_admit = λ m k o o'. by_answer k o o' refl;
  parse_newline = λ m k o o'. by_answer k o o' refl;
  parse_until_line_end = λ m k o o'. by_answer k o o' refl;
  parse_line_end = λ m k o o'. by_answer k o o' refl;
  parse_next_byte = λ m k o o'. by_answer k o o' refl;
  parse_past_byte = λ m k o o'. by_answer k o o' refl;
  parse_between = λ m k o o'. by_shown k o o' refl;
  id_hex_hash = λ m k o o'. by_answer k o o' refl;
  compare_compare = λ m k o o'. by_answer k o o' refl;
  compare_is_less = λ m k o o'. by_answer k o o' refl;
  compare_begins_with = λ m k o o'. by_answer k o o' refl;
  compare_is_same = λ m k o o'. by_answer k o o' refl;
  name_is_valid = λ m k o o'. by_answer k o o' refl;
}
