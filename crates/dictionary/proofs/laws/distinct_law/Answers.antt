use Rattle.value_ids.proofs.DistinctLemmas.{distinct_ascends, distinct_members, same_ascending}
use Rattle.dictionary.proofs.laws.distinct_law.Goals as goal

pub returns : goal.returns
returns c = record { ascend = distinct_ascends; those = distinct_members; one = same_ascending }
