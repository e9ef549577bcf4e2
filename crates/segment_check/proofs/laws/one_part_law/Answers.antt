use Rattle.segment_check.proofs.OnePart.{one_part}
use Rattle.segment_check.proofs.laws.one_part_law.Goals as goal

pub returns : goal.returns
returns c = one_part
