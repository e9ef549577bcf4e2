use Rattle.segment_check.proofs.ImagesPass.{images_pass}
use Rattle.segment_check.proofs.laws.images_pass_law.Goals as goal

pub returns : goal.returns
returns c = images_pass
