-- Bytes, lines, ids, order and names: any two outcomes allowed are the same.
use Rattle.class.specs.contracts.table
use Rattle.class.specs.contracts.is_hex
use Rattle.class.specs.contracts.is_forbidden
use Rattle.class.specs.contracts.is_line_end
use Rattle.class.specs.contracts.is_hex_digit
use Rattle.class.specs.contracts.is_cr_or_lf
use Rattle.block.specs.contracts.among16
use Rattle.block.specs.contracts.among
use Rattle.word.specs.contracts.first_low
use Rattle.word.specs.contracts.last_low
use Rattle.word.specs.contracts.number
use Rattle.parse.specs.contracts.limit.digits
use Rattle.parse.specs.contracts.limit.over_limit
use Rattle.parse.specs.contracts.limit.admit
use Rattle.parse.specs.contracts.line.newline
use Rattle.parse.specs.contracts.line.until_line_end
use Rattle.parse.specs.contracts.line.line_end
use Rattle.parse.specs.contracts.scan.next_byte
use Rattle.parse.specs.contracts.part.past_byte
use Rattle.parse.specs.contracts.part.between
use Rattle.id.specs.contracts.hex_hash
use Rattle.compare.specs.contracts.order.compare
use Rattle.compare.specs.contracts.order.is_less
use Rattle.compare.specs.contracts.prefix.begins_with
use Rattle.compare.specs.contracts.prefix.is_same
use Rattle.name.specs.contracts.is_valid
use Rattle.determined.specs.Outcomes.{Determined, DeterminedAs}

pub record Bytes : Type 2 where
  pub class_table_lem : Determined table.ended (λ M 𝓤. table.clauses)
  pub class_is_hex : Determined is_hex.ended (λ M 𝓤. is_hex.clauses)
  pub class_is_forbidden : Determined is_forbidden.ended (λ M 𝓤. is_forbidden.clauses)
  pub class_is_line_end : Determined is_line_end.ended (λ M 𝓤. is_line_end.clauses)
  pub class_is_hex_digit : Determined is_hex_digit.ended (λ M 𝓤. is_hex_digit.clauses)
  pub class_is_cr_or_lf : Determined is_cr_or_lf.ended (λ M 𝓤. is_cr_or_lf.clauses)
  pub block_among16 : Determined among16.ended (λ M 𝓤. among16.clauses)
  pub block_among : Determined among.ended (λ M 𝓤. among.clauses)
  pub word_first_low : Determined first_low.ended (λ M 𝓤. first_low.clauses)
  pub word_last_low : Determined last_low.ended (λ M 𝓤. last_low.clauses)
  pub word_number : Determined number.ended (λ M 𝓤. number.clauses)
  pub parse_digits : Determined digits.ended (λ M 𝓤. digits.clauses)
  pub parse_over_limit : Determined over_limit.ended (λ M 𝓤. over_limit.clauses)
  pub parse_admit : Determined admit.ended (λ M 𝓤. admit.clauses)
  pub parse_newline : Determined newline.ended (λ M 𝓤. newline.clauses)
  pub parse_until_line_end : Determined until_line_end.ended (λ M 𝓤. until_line_end.clauses)
  pub parse_line_end : Determined line_end.ended (λ M 𝓤. line_end.clauses)
  pub parse_next_byte : Determined next_byte.ended (λ M 𝓤. next_byte.clauses)
  pub parse_past_byte : Determined past_byte.ended (λ M 𝓤. past_byte.clauses)
  pub parse_between : DeterminedAs between.ended (λ M 𝓤. between.clauses) (λ κs r. r.now)
  pub id_hex_hash : Determined hex_hash.ended (λ M 𝓤. hex_hash.clauses)
  pub compare_compare : Determined compare.ended (λ M 𝓤. compare.clauses)
  pub compare_is_less : Determined is_less.ended (λ M 𝓤. is_less.clauses)
  pub compare_begins_with : Determined begins_with.ended (λ M 𝓤. begins_with.clauses)
  pub compare_is_same : Determined is_same.ended (λ M 𝓤. is_same.clauses)
  pub name_is_valid : Determined is_valid.ended (λ M 𝓤. is_valid.clauses)
