use Rattle.std.proofs.Common.{◌-◌}
use Rattle.outside.specs.Seen.{seen}
use Rattle.table_store.proofs.CopyLemmas.{Copying}
use Rattle.table_store.proofs.keeping.copy_file.Given as goal

abbrev pub invariant-pieces : goal.invariant-pieces
invariant-pieces g l = Copying l.file l.done (seen g.D.Shelf l.fn.depot) (seen g.D.Shelf l.depot)

abbrev pub decreases-pieces : goal.decreases-pieces
decreases-pieces g l = l.length - l.done
