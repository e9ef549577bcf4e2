use Rattle.segment_scan.proofs.ImageLemmas.{images_read}
use Rattle.segment_scan.proofs.laws.image_law.Goals as goal

pub returns : goal.returns
returns c = images_read c.head_tells_law.ensures
