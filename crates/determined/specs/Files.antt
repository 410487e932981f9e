-- A file's header, records, start, items and check, and loose content: any two outcomes allowed are the same.
use Rattle.header.specs.contracts.read_header
use Rattle.header.specs.contracts.open as opening
use Rattle.decode.specs.contracts.reference.reference
use Rattle.decode.specs.contracts.reference.name_of
use Rattle.start.specs.contracts.begin
use Rattle.start.specs.contracts.begin_without_kind
use Rattle.iter.specs.contracts.step.next as iter_next
use Rattle.iter.specs.contracts.step.next_with_prefix
use Rattle.iter.specs.contracts.step.next_on_line
use Rattle.iter.specs.contracts.step.next_with_digits
use Rattle.walker.specs.contracts.walk
use Rattle.line_number.specs.contracts.line_number
use Rattle.line_number.specs.contracts.more_lines
use Rattle.line_number.specs.contracts.text_len
use Rattle.line_number.specs.contracts.behind
use Rattle.iterator.specs.contracts.Iter.new
use Rattle.iterator.specs.contracts.Iter.next as iterator_next
use Rattle.iterator.specs.contracts.first
use Rattle.checks.specs.contracts.check
use Rattle.checks.specs.contracts.check_with_digits
use Rattle.checks.specs.contracts.check_from
use Rattle.checks.specs.contracts.refused
use Rattle.checks.specs.contracts.take_turn
use Rattle.checks.specs.contracts.RefusalFromBadHeader.from as from_bad_header
use Rattle.loose.specs.contracts.read
use Rattle.loose.specs.contracts.read_with_digits
use Rattle.loose.specs.contracts.target_of
use Rattle.determined.specs.Outcomes.{Determined, DeterminedAs}

pub record Files : Type 2 where
  pub header_read_header : Determined read_header.ended (λ M 𝓤. read_header.clauses)
  pub header_open : Determined opening.ended (λ M 𝓤. opening.clauses)
  pub decode_reference : Determined reference.ended (λ M 𝓤. reference.clauses)
  pub decode_name_of : DeterminedAs name_of.ended (λ M 𝓤. name_of.clauses) (λ κs r. r.now)
  pub start_begin : Determined begin.ended (λ M 𝓤. begin.clauses)
  pub start_begin_without_kind : Determined begin_without_kind.ended (λ M 𝓤. begin_without_kind.clauses)
  pub iter_next_lem : Determined iter_next.ended (λ M 𝓤. iter_next.clauses)
  pub iter_next_with_prefix : Determined next_with_prefix.ended (λ M 𝓤. next_with_prefix.clauses)
  pub iter_next_on_line : Determined next_on_line.ended (λ M 𝓤. next_on_line.clauses)
  pub iter_next_with_digits : Determined next_with_digits.ended (λ M 𝓤. next_with_digits.clauses)
  pub walker_walk : Determined walk.ended (λ M 𝓤. walk.clauses)
  pub line_number_line_number : Determined line_number.ended (λ M 𝓤. line_number.clauses)
  pub line_number_more_lines : Determined more_lines.ended (λ M 𝓤. more_lines.clauses)
  pub line_number_text_len : Determined text_len.ended (λ M 𝓤. text_len.clauses)
  pub line_number_behind : Determined behind.ended (λ M 𝓤. behind.clauses)
  pub iterator_new : Determined new.ended (λ M 𝓤. new.clauses)
  pub iterator_next_lem : Determined iterator_next.ended (λ M 𝓤. iterator_next.clauses)
  pub iterator_first : Determined first.ended (λ M 𝓤. first.clauses)
  pub checks_check : Determined check.ended (λ M 𝓤. check.clauses)
  pub checks_check_with_digits : Determined check_with_digits.ended (λ M 𝓤. check_with_digits.clauses)
  pub checks_check_from : Determined check_from.ended (λ M 𝓤. check_from.clauses)
  pub checks_refused : Determined refused.ended (λ M 𝓤. refused.clauses)
  pub checks_take_turn : Determined take_turn.ended (λ M 𝓤. take_turn.clauses)
  pub checks_from_bad_header : Determined from_bad_header.ended (λ M 𝓤. from_bad_header.clauses)
  pub loose_read : Determined read.ended (λ M 𝓤. read.clauses)
  pub loose_read_with_digits : Determined read_with_digits.ended (λ M 𝓤. read_with_digits.clauses)
  pub loose_target_of : DeterminedAs target_of.ended (λ M 𝓤. target_of.clauses) (λ κs r. r.now)
