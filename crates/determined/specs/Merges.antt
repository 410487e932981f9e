-- What is written, and the merge: any two outcomes allowed are the same.
use Rattle.hex_digits.specs.contracts.high
use Rattle.hex_digits.specs.contracts.low
use Rattle.put.specs.contracts.byte
use Rattle.put.specs.contracts.bytes
use Rattle.put.specs.contracts.hex as put_hex
use Rattle.put.specs.contracts.lf
use Rattle.lines.specs.contracts.header
use Rattle.lines.specs.contracts.put_record
use Rattle.lines.specs.contracts.put_peeled
use Rattle.runs.specs.contracts.survey
use Rattle.runs.specs.contracts.is_still
use Rattle.runs.specs.contracts.mark_at
use Rattle.merge.specs.contracts.merge
use Rattle.merge.specs.contracts.merge_with_digits
use Rattle.merge.specs.contracts.NotMergedFromNotAdmitted.from as from_not_admitted
use Rattle.merge.specs.contracts.NotMergedFromNotPrepared.from as from_not_prepared
use Rattle.merge.specs.contracts.NotMergedFromBadHeader.from as from_bad_header
use Rattle.merge.specs.contracts.NotMergedFromRefusal.from as from_refusal
use Rattle.determined.specs.Outcomes.{Determined}

pub record Merges : Type 2 where
  pub hex_high : Determined high.ended (λ M 𝓤. high.clauses)
  pub hex_low : Determined low.ended (λ M 𝓤. low.clauses)
  pub put_byte : Determined byte.ended (λ M 𝓤. byte.clauses)
  pub put_bytes : Determined bytes.ended (λ M 𝓤. bytes.clauses)
  pub put_hex_lem : Determined put_hex.ended (λ M 𝓤. put_hex.clauses)
  pub put_lf : Determined lf.ended (λ M 𝓤. lf.clauses)
  pub lines_header : Determined header.ended (λ M 𝓤. header.clauses)
  pub lines_put_record : Determined put_record.ended (λ M 𝓤. put_record.clauses)
  pub lines_put_peeled : Determined put_peeled.ended (λ M 𝓤. put_peeled.clauses)
  pub runs_survey : Determined survey.ended (λ M 𝓤. survey.clauses)
  pub runs_is_still : Determined is_still.ended (λ M 𝓤. is_still.clauses)
  pub runs_mark_at : Determined mark_at.ended (λ M 𝓤. mark_at.clauses)
  pub merge_merge : Determined merge.ended (λ M 𝓤. merge.clauses)
  pub merge_with_digits_lem : Determined merge_with_digits.ended (λ M 𝓤. merge_with_digits.clauses)
  pub merge_from_not_admitted : Determined from_not_admitted.ended (λ M 𝓤. from_not_admitted.clauses)
  pub merge_from_not_prepared : Determined from_not_prepared.ended (λ M 𝓤. from_not_prepared.clauses)
  pub merge_from_bad_header : Determined from_bad_header.ended (λ M 𝓤. from_bad_header.clauses)
  pub merge_from_refusal : Determined from_refusal.ended (λ M 𝓤. from_refusal.clauses)
