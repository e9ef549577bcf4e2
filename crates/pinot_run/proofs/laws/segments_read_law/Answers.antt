use Rattle.pinot_run.proofs.StateReads.{segments_read}
use Rattle.pinot_run.proofs.laws.segments_read_law.Goals as goal

pub returns : goal.returns
returns c = segments_read
