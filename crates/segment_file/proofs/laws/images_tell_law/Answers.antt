use Rattle.segment_file.proofs.ImageTells.{images_tell}
use Rattle.segment_file.proofs.laws.images_tell_law.Goals as goal

pub returns : goal.returns
returns c = images_tell
