use Rattle.value_ids.specs.Ids.{is_in_either}
use Rattle.value_ids.proofs.SetLemmas.{Passed}
use Rattle.value_ids.proofs.id_sets.union_of.Given as goal

abbrev pub invariant-loop-id : goal.invariant-loop-id
invariant-loop-id l = Passed (is_in_either l.count l.a l.b) l.id l.ids
