use Rattle.std.proofs.Common.{◌≡◌, ◌++◌, take}
use Rattle.state_columns.specs.Docs.{doc_at}
use Rattle.star_file.specs.Bytes.{state_bytes}
use Rattle.star_file.proofs.writing.push_states.Given as goal

abbrev pub invariant-loop-pair : goal.invariant-loop-pair
invariant-loop-pair l = l.out.items ≡ l.initial.out.items
    ++ state_bytes (take l.pair (doc_at l.docs.docs l.at).1)
