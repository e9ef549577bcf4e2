use Rattle.std.proofs.Common.{◌≡◌, ◌++◌}
use Rattle.state_columns.specs.Region.{range}
use Rattle.star_file.specs.Bytes.{doc_bytes}
use Rattle.star_file.proofs.writing.push_docs.Given as goal

abbrev pub invariant-loop-at : goal.invariant-loop-at
invariant-loop-at l = l.out.items ≡ l.initial.out.items ++ doc_bytes (range l.from l.at l.docs.docs)
