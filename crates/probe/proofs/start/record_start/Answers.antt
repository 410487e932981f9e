-- `probe::start::record_start` meets its contract.
use Rattle.probe.proofs.start.record_start.Goals as goal

pub returns : goal.returns
returns c = c.from_line.ensures _ c.line_start.ensures
