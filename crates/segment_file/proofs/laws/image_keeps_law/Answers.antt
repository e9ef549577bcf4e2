use Rattle.segment_file.proofs.ImageKeeps.{image_keeps}
use Rattle.segment_file.proofs.laws.image_keeps_law.Goals as goal

pub returns : goal.returns
returns c = image_keeps
