use Rattle.index_reader.proofs.BucketDocs.{none_left}
use Rattle.index_reader.proofs.laws.none_left_law.Goals as goal

pub returns : goal.returns
returns c = none_left
