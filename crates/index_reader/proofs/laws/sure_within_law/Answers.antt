use Rattle.index_reader.proofs.BucketDocs.{sure_within}
use Rattle.index_reader.proofs.laws.sure_within_law.Goals as goal

pub returns : goal.returns
returns c = sure_within
