use Rattle.pinot_run.proofs.GenerateReads.{generate_reads}
use Rattle.pinot_run.proofs.laws.generate_reads_law.Goals as goal

pub returns : goal.returns
returns c = generate_reads
