-- `probe::start::record_start_far` meets its contract.
use Rattle.probe.proofs.start.record_start_far.Goals as goal

pub returns : goal.returns
returns c = c.from_line.ensures _ c.line_start_far.ensures
