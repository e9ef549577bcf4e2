use Rattle.std.proofs.Common.{◌≡◌, ◌++◌, drop}
use Rattle.table_store.specs.Segments.{names_among}
use Rattle.table_store.proofs.segments.names_among.Given as goal

abbrev pub invariant-loop-file : goal.invariant-loop-file
invariant-loop-file l = l.names.items ++ names_among (drop l.file-index l.file-items) ≡ names_among l.files
