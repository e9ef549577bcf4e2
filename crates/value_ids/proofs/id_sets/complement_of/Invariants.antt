use Rattle.value_ids.proofs.RunLemmas.{LeftOut}
use Rattle.value_ids.proofs.id_sets.complement_of.Given as goal

abbrev pub invariant-loop-id : goal.invariant-loop-id
invariant-loop-id l = LeftOut l.count l.list l.id-index l.next l.outside
