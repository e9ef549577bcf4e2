use Rattle.segment_scan.proofs.IndexImage.{images_leave}
use Rattle.segment_scan.proofs.laws.index_law.Goals as goal

pub returns : goal.returns
returns c = images_leave c.head_tells_law.ensures
