-- The line number that is told beside 41 to 45 is the true one.
use Rattle.line_number.proofs.Feeds.{true_line}
use Rattle.tell.specs.Told.{TellsTrue}

pub tells_true : TellsTrue
tells_true file place f small = true_line file place small
