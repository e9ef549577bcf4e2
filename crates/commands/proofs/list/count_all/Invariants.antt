use Rattle.std.proofs.Common.{◌≡◌, IfSome, length, map}
use Rattle.outside.specs.Seen.{OnlyReads, seen}
use Rattle.segment_head.specs.Stored.{live}
use Rattle.segment_reads.specs.Logs.{LogsHeadsOf}
use Rattle.command_model.specs.Profile.{StoreFiles}
use Rattle.command_model.specs.Touched.{LogsOpened}
use Rattle.command_model.proofs.StoredLemmas.{CountsOn}
use Rattle.commands.proofs.list.count_all.Given as goal

abbrev pub invariant-names : goal.invariant-names
invariant-names g l = record {
  reads : OnlyReads ⊥ (seen g.D.Shelf l.fn.depot) (seen g.D.Shelf l.depot);
  log : LogsOpened StoreFiles (g.D.Shelf.log l.fn.depot) (g.D.Shelf.log l.depot);
  heads : LogsHeadsOf l.table (g.D.Shelf.held l.fn.depot) (map live l.names) (g.D.Shelf.log l.fn.depot) (g.D.Shelf.log l.depot);
  each : length l.counts.items ≡ l.at;
  so_far : IfSome (g.D.Shelf.held l.fn.depot) (CountsOn l.table l.names l.at l.counts.items);
}
