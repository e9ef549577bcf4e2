use Rattle.pinot_run.proofs.AllReads.{script_reads}
use Rattle.pinot_run.proofs.laws.script_reads_law.Goals as goal

pub returns : goal.returns
returns c = script_reads
