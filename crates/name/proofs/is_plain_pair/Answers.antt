-- `name::is_plain_pair` meets its contract: it asks what the definition asks. Assumes nothing.
use Rattle.name.specs.Plain.{plain_pair}
use Rattle.name.proofs.is_plain_pair.Goals as goal

pub returns : goal.returns
unfolding plain_pair
returns c = rw (c.is_quiet.ensures, c.is_dot_or_slash.ensures, c.is_dot_or_slash-2.ensures)
