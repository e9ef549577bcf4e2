use Rattle.std.proofs.Common.{◌≡◌, take}
use Rattle.state_columns.specs.Docs.{doc_at}
use Rattle.star_answer.proofs.merging.fill_states.Given as goal

abbrev pub invariant-loop-pair : goal.invariant-loop-pair
invariant-loop-pair l = l.states ≡ take l.pair (doc_at l.selected.docs l.at).1
