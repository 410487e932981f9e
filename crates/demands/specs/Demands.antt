-- The three demands that stand over everything (docs/GUARANTEES.md has their words), each of what callers lend and get. Demand 2 also asks that every operation
-- follows document 01: that is what each operation's own contract says, and handed/specs/Hands.antt of the items. That answers equal the Rust's within its domain
-- is compared and not proved (compare/, and the program replay).
use Rattle.damage.specs.Damage.{Demand3}
use Rattle.demands.specs.Found.{Demand2}
use Rattle.demands.specs.Refused.{Demand1}

pub record Demands : Type 0 where
  -- "Any bytes, any call: an answer or a numbered refusal, never a fault, no check left to the caller. A refused merge leaves the output untouched; the
  -- index keeps what document 01 says."
  pub first : Demand1
  -- "Behind the header of a file that passes the check, a valid name is found exactly if a record has it."
  pub second : Demand2
  -- "In a file that passes the check, replace one run of bytes after the header by any others [..]"
  pub third : Demand3
