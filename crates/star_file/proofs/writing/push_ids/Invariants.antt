use Rattle.std.proofs.Common.{◌≡◌, ◌++◌, take}
use Rattle.state_columns.specs.Docs.{doc_at}
use Rattle.star_file.specs.Bytes.{words}
use Rattle.star_file.proofs.writing.push_ids.Given as goal

abbrev pub invariant-loop-level : goal.invariant-loop-level
invariant-loop-level l = l.out.items ≡ l.initial.out.items
    ++ words (take l.level (doc_at l.docs.docs l.at).0)
