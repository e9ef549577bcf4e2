use Rattle.value_ids.proofs.SetLemmas.{GathersUpTo}
use Rattle.value_ids.proofs.id_sets.set_of.Given as goal

abbrev pub invariant-loop-place : goal.invariant-loop-place
invariant-loop-place l = GathersUpTo l.place-items l.place-index l.ids
