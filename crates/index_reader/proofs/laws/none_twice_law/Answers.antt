use Rattle.index_reader.proofs.BucketDocs.{none_twice}
use Rattle.index_reader.proofs.laws.none_twice_law.Goals as goal

pub returns : goal.returns
returns c = none_twice
