use Rattle.outside.specs.Seen.{seen}
use Rattle.serve_lines.proofs.GoingLemmas.{Going}
use Rattle.serve_lines.proofs.batch.remove_all_kept.Given as goal

abbrev pub invariant-names : goal.invariant-names
invariant-names g l = Going l.names l.at (seen g.D.Shelf l.fn.depot) (seen g.D.Shelf l.depot)
