use Rattle.segment_check.proofs.ImageOrPart.{image_or_part}
use Rattle.segment_check.proofs.laws.image_or_part_law.Goals as goal

pub returns : goal.returns
returns c = image_or_part
