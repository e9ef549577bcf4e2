use Rattle.segment_scan.proofs.ImageLemmas.{loaded_readable}
use Rattle.segment_scan.proofs.laws.readable_law.Goals as goal

pub returns : goal.returns
returns c = loaded_readable
