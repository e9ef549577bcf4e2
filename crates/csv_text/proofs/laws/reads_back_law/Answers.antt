use Rattle.csv_text.proofs.ReadBack.{reads_back}
use Rattle.csv_text.proofs.laws.reads_back_law.Goals as goal

pub returns : goal.returns
returns c = reads_back
