use Rattle.commands.specs.GeneratedColumns.{HasSorts}
use Rattle.commands.proofs.GeneratedLemmas.{AreSoFar}
use Rattle.commands.proofs.generated.columns_of.Given as goal

abbrev pub invariant-each : goal.invariant-each
invariant-each l = record {
  sorts : HasSorts l.made;
  so_far : AreSoFar l.row l.made;
}
