-- What a caller who steps an iteration that is one value, again and again, is handed. Nothing is used here but what the step answers and where it
-- leaves the iteration.
use Rattle.std.specs.Prelude.{◌≡◌, List, [], ◌∷◌, ℕ, zero, suc, ◌-◌, ◌<◌, length, take, drop, Result, Ok, Err}
use Rattle.std.proofs.Math.Option.{Option, none, some}
use Rattle.class.specs.Class.{paper}
use Rattle.parse.specs.Limit.{admission}
use Rattle.decode.specs.Entry.{entry_of}
use Rattle.iter.specs.Items.{items}
use Rattle.iter.specs.declared.step.Step.TheVariants.{End, Good, Error}
use Rattle.handed.specs.Handed.{good, error, given}
use Rattle.handed.specs.Hands.{up_to_other, all_of}
use Rattle.handed.specs.Iteration.{Iteration, said_end, unfinished, onto, iterate}
use Rattle.iterator.specs.declared.Iter.{Iter}
use Rattle.iterator.specs.Next.{answer_of, next_iter}
use Rattle.iter.specs.declared.step.Step.{Step}
use Rattle.parse.specs.declared.limit.NotAdmitted.{NotAdmitted}
use Rattle.parse.specs.declared.limit.NotAdmitted.TheVariants.{TooLarge, UnknownKind}

-- the line number of its place: where it walks it is what the value holds; with a prefix it is not known
abbrev pub line_with : List ℕ → ℕ → Option ℕ
line_with [] line = some line
line_with (b ∷ prefix) line = none

abbrev pub line_of : Iter → Option ℕ
line_of it = line_with it.prefix.now it.line

-- what an answer hands out, for ids of n digits, and then the rest; an end and a refusal hand out nothing, and nothing comes behind them
abbrev pub iterate_by : ℕ → Iter → Iteration → Result Step NotAdmitted → Iteration
iterate_by n it rest (Ok (End next)) = record { out = []; stop = said_end next (line_of (next_iter it)) }
iterate_by n it rest (Ok (Good r next)) = onto (given it.place next (good (entry_of n (drop it.place it.s.now) r))) rest
iterate_by n it rest (Ok (Error f told text next)) = onto (given it.place next (error told (take text (drop it.place it.s.now)))) rest
iterate_by n it rest (Err why) = record { out = []; stop = unfinished }

-- so many steps at most
abbrev pub iterate_from : ℕ → ℕ → Iter → Iteration
iterate_from n zero it = record { out = []; stop = unfinished }
iterate_from n (suc turns) it = iterate_by n it (iterate_from n turns (next_iter it)) (answer_of it)

-- the kind's number, then the size limit of the bytes and of the prefix
abbrev pub admission_of : Iter → Result ℕ NotAdmitted
admission_of it = admission it.kind (length it.s.now) (length it.prefix.now)

pub record GoesOn (it : Iter) : Type 0 where
  -- the steps are walks, or with a prefix the steps with one, each from where the one before it left the iteration
  pub on : (n turns : ℕ) → admission_of it ≡ Ok n
      → iterate_from n turns it ≡ iterate paper n it.prefix.now it.s.now turns it.place (line_of it)
  -- so whoever steps until the end is handed the items from the place on, up to the first record whose name doesn't begin with the prefix, and then
  -- the end. A step for every byte left and one for the end is enough
  pub all : (n turns : ℕ) → admission_of it ≡ Ok n → length it.s.now - it.place < turns
      → iterate_from n turns it ≡ all_of n (length it.s.now) it.place (line_of it) (up_to_other n it.prefix.now (items paper n (drop it.place it.s.now)))
  -- "ends the iteration for good": behind an end every step answers that end again
  pub ends : (next : ℕ) → answer_of it ≡ Ok (End next) → answer_of (next_iter it) ≡ Ok (End next)
  -- a refusal leaves the iteration where it was
  pub unknown : answer_of it ≡ Err UnknownKind → next_iter it ≡ it
  pub large : answer_of it ≡ Err TooLarge → next_iter it ≡ it
