use Rattle.std.proofs.Common.{◌≡◌, ◌++◌, drop}
use Rattle.cursors.specs.Added.{stored_in}
use Rattle.cursors.proofs.answering.stored_of.Given as goal

abbrev pub invariant-names : goal.invariant-names
invariant-names l = record {
  so_far : l.stored.items ++ stored_in (drop l.at l.names) (drop l.at l.files) ≡ stored_in l.names l.files;
}
