use Rattle.value_ids.proofs.SetLemmas.{SharedUpTo}
use Rattle.value_ids.proofs.id_sets.intersection_of.Given as goal

abbrev pub invariant-loop-id : goal.invariant-loop-id
invariant-loop-id l = SharedUpTo l.list l.b l.id-index l.ids
