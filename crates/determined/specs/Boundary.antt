-- What C and Rust call, and the replies that it gives: any two outcomes allowed are the same.
use Rattle.reply_file.specs.contracts.head.header_reply
use Rattle.reply_file.specs.contracts.head.name_number
use Rattle.reply_file.specs.contracts.walk.start_reply
use Rattle.reply_file.specs.contracts.walk.step_reply
use Rattle.reply_file.specs.contracts.walk.walk_reply
use Rattle.reply_file.specs.contracts.walk.prefix_step_reply
use Rattle.reply_file.specs.contracts.verdict.check_reply
use Rattle.reply_lookup.specs.contracts.lookup.lookup_reply
use Rattle.reply_lookup.specs.contracts.prefix.prefix_reply
use Rattle.reply_lookup.specs.contracts.asked.ask_reply
use Rattle.reply_loose.specs.contracts.loose_reply
use Rattle.reply_merge.specs.contracts.merge_reply
use Rattle.tell.specs.contracts.parts_at
use Rattle.tell.specs.contracts.no_parts
use Rattle.tell.specs.contracts.refusal
use Rattle.tell.specs.contracts.fault_number
use Rattle.tell.specs.contracts.verdict_number
use Rattle.host.specs.contracts.read.packed_refs_header
use Rattle.host.specs.contracts.read.packed_refs_name
use Rattle.host.specs.contracts.read.packed_refs_start
use Rattle.host.specs.contracts.read.packed_refs_step
use Rattle.host.specs.contracts.read.packed_refs_walk
use Rattle.host.specs.contracts.read.packed_refs_step_prefix
use Rattle.host.specs.contracts.read.packed_refs_check
use Rattle.host.specs.contracts.read.packed_refs_record_start
use Rattle.host.specs.contracts.read.packed_refs_lookup
use Rattle.host.specs.contracts.read.packed_refs_prefix
use Rattle.host.specs.contracts.read.packed_refs_ask
use Rattle.host.specs.contracts.read.packed_refs_loose
use Rattle.host.specs.contracts.write.packed_refs_merge
use Rattle.determined.specs.Outcomes.{Determined}

pub record Boundary : Type 2 where
  pub reply_header_reply : Determined header_reply.ended (λ M 𝓤. header_reply.clauses)
  pub reply_name_number : Determined name_number.ended (λ M 𝓤. name_number.clauses)
  pub reply_start_reply : Determined start_reply.ended (λ M 𝓤. start_reply.clauses)
  pub reply_step_reply : Determined step_reply.ended (λ M 𝓤. step_reply.clauses)
  pub reply_walk_reply : Determined walk_reply.ended (λ M 𝓤. walk_reply.clauses)
  pub reply_prefix_step_reply : Determined prefix_step_reply.ended (λ M 𝓤. prefix_step_reply.clauses)
  pub reply_check_reply : Determined check_reply.ended (λ M 𝓤. check_reply.clauses)
  pub reply_lookup_reply : Determined lookup_reply.ended (λ M 𝓤. lookup_reply.clauses)
  pub reply_prefix_reply : Determined prefix_reply.ended (λ M 𝓤. prefix_reply.clauses)
  pub reply_ask_reply : Determined ask_reply.ended (λ M 𝓤. ask_reply.clauses)
  pub reply_loose_reply : Determined loose_reply.ended (λ M 𝓤. loose_reply.clauses)
  pub reply_merge_reply : Determined merge_reply.ended (λ M 𝓤. merge_reply.clauses)
  pub tell_parts_at : Determined parts_at.ended (λ M 𝓤. parts_at.clauses)
  pub tell_no_parts : Determined no_parts.ended (λ M 𝓤. no_parts.clauses)
  pub tell_refusal : Determined refusal.ended (λ M 𝓤. refusal.clauses)
  pub tell_fault_number : Determined fault_number.ended (λ M 𝓤. fault_number.clauses)
  pub tell_verdict_number : Determined verdict_number.ended (λ M 𝓤. verdict_number.clauses)
  pub packed_refs_header_lem : Determined packed_refs_header.ended (λ M 𝓤. packed_refs_header.clauses)
  pub packed_refs_name_lem : Determined packed_refs_name.ended (λ M 𝓤. packed_refs_name.clauses)
  pub packed_refs_start_lem : Determined packed_refs_start.ended (λ M 𝓤. packed_refs_start.clauses)
  pub packed_refs_step_lem : Determined packed_refs_step.ended (λ M 𝓤. packed_refs_step.clauses)
  pub packed_refs_walk_lem : Determined packed_refs_walk.ended (λ M 𝓤. packed_refs_walk.clauses)
  pub packed_refs_step_prefix_lem : Determined packed_refs_step_prefix.ended (λ M 𝓤. packed_refs_step_prefix.clauses)
  pub packed_refs_check_lem : Determined packed_refs_check.ended (λ M 𝓤. packed_refs_check.clauses)
  pub packed_refs_record_start_lem : Determined packed_refs_record_start.ended (λ M 𝓤. packed_refs_record_start.clauses)
  pub packed_refs_lookup_lem : Determined packed_refs_lookup.ended (λ M 𝓤. packed_refs_lookup.clauses)
  pub packed_refs_prefix_lem : Determined packed_refs_prefix.ended (λ M 𝓤. packed_refs_prefix.clauses)
  pub packed_refs_ask_lem : Determined packed_refs_ask.ended (λ M 𝓤. packed_refs_ask.clauses)
  pub packed_refs_loose_lem : Determined packed_refs_loose.ended (λ M 𝓤. packed_refs_loose.clauses)
  pub packed_refs_merge_lem : Determined packed_refs_merge.ended (λ M 𝓤. packed_refs_merge.clauses)
