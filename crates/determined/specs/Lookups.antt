-- Lookup, prefix listing and the lookup that can be trusted on any bytes: any two outcomes allowed are the same.
use Rattle.probe.specs.contracts.shape.name_at_record_start
use Rattle.probe.specs.contracts.start.record_start
use Rattle.probe.specs.contracts.start.record_start_far
use Rattle.search.specs.contracts.search as searching
use Rattle.find.specs.contracts.lookup.find
use Rattle.find.specs.contracts.lookup.find_with_digits
use Rattle.find.specs.contracts.prefix_start.begin
use Rattle.find.specs.contracts.prefix_start.begin_with_digits
use Rattle.ask.specs.contracts.ask
use Rattle.ask.specs.contracts.ask_with_digits
use Rattle.determined.specs.Outcomes.{Determined}

pub record Lookups : Type 2 where
  pub probe_name_at_record_start : Determined name_at_record_start.ended (λ M 𝓤. name_at_record_start.clauses)
  pub probe_record_start : Determined record_start.ended (λ M 𝓤. record_start.clauses)
  pub probe_record_start_far : Determined record_start_far.ended (λ M 𝓤. record_start_far.clauses)
  pub search_search : Determined searching.ended (λ M 𝓤. searching.clauses)
  pub find_find : Determined find.ended (λ M 𝓤. find.clauses)
  pub find_find_with_digits : Determined find_with_digits.ended (λ M 𝓤. find_with_digits.clauses)
  pub find_begin : Determined begin.ended (λ M 𝓤. begin.clauses)
  pub find_begin_with_digits : Determined begin_with_digits.ended (λ M 𝓤. begin_with_digits.clauses)
  pub ask_ask : Determined ask.ended (λ M 𝓤. ask.clauses)
  pub ask_ask_with_digits : Determined ask_with_digits.ended (λ M 𝓤. ask_with_digits.clauses)
