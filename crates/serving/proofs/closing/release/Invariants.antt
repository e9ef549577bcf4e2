use Rattle.std.proofs.Common.{take}
use Rattle.outside.specs.Seen.{seen}
use Rattle.table_store.specs.Calls.{OnlyRemoves}
use Rattle.serving.proofs.GoneLemmas.{HaveGone}
use Rattle.serving.proofs.closing.release.Given as goal

abbrev pub invariant-files : goal.invariant-files
invariant-files g l = record {
  gone : HaveGone l.at l.cursors (take l.k l.files) (g.D.Shelf.held l.fn.depot) (g.D.Shelf.held l.depot);
  removes : OnlyRemoves ⊥ ⊥ (seen g.D.Shelf l.fn.depot) (seen g.D.Shelf l.depot);
}
