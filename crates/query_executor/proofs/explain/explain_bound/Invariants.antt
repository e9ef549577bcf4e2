use Rattle.std.proofs.Common.{◌<◌, ℕ, [], get_or}
use Rattle.outside.specs.Seen.{OnlyReads, seen}
use Rattle.segment_opening.specs.Calls.{HasOpeningIn}
use Rattle.query_executor.specs.Lines.{plan_line}
use Rattle.segment_reads.specs.Logs.{LogsHeadsOf}
use Rattle.query_executor.specs.Steps.{HasLines}
use Rattle.query_executor.proofs.explain.explain_bound.Given as goal
use Rattle.segment_head.specs.Stored.{segment_at}

abbrev pub invariant-stored : goal.invariant-stored
invariant-stored g l = record {
  so_far : HasLines (plan_line l.query l.table) l.table (g.S.Shelf.held l.fn.shelf) l.stored l.at l.text.items;
  opens : (k : ℕ) → k < l.at → HasOpeningIn l.table (g.S.Shelf.held l.fn.shelf) (segment_at l.stored k);
  reads : OnlyReads ⊥ (seen g.S.Shelf l.fn.shelf) (seen g.S.Shelf l.shelf);
  log : LogsHeadsOf l.table (g.S.Shelf.held l.fn.shelf) l.stored (g.S.Shelf.log l.fn.shelf) (g.S.Shelf.log l.shelf);
}
