use Rattle.std.proofs.Common.{◌≡◌, take}
use Rattle.state_columns.specs.Docs.{doc_at}
use Rattle.star_reader.specs.Asked.{states_of}
use Rattle.star_reader.proofs.selection.put_states.Given as goal

abbrev pub invariant-loop-pair : goal.invariant-loop-pair
invariant-loop-pair l =
    l.states.items ≡ states_of (take l.pair-index l.pairs) (doc_at l.table.docs l.at).1
