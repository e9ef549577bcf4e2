use Rattle.std.proofs.Common.{◌≡◌, ◌+◌, ◌*◌, ◌<◌, ℕ, [], get_or, true}
use Rattle.outside.specs.Seen.{OnlyReads, seen}
use Rattle.group_table.specs.Kept.{IsTableOf, groups_in}
use Rattle.scan_engine.specs.Scanned.{HaveAtMost}
use Rattle.segment_reads.specs.Logs.{LogsOf, LogsWhere}
use Rattle.segment_reads.specs.Reads.{LogsEach, ReadsPlanned}
use Rattle.segment_reads.proofs.GrownLemmas.{IsFileBefore}
use Rattle.segment_opening.specs.Calls.{HasOpeningIn}
use Rattle.query_executor.specs.Steps.{AddsFirst, HasLines}
use Rattle.query_executor.specs.Lines.{stats_line}
use Rattle.query_executor.specs.Passes.{kept_by}
use Rattle.group_table.specs.Pooled.{StaysIn}
use Rattle.query_executor.proofs.pass.pass_over.Given as goal
use Rattle.segment_head.specs.Stored.{segment_at}

abbrev pub invariant-stored : goal.invariant-stored
invariant-stored g l = record {
  stays : StaysIn l.fn.pass.groups l.fn.pass.pool l.pass.groups l.pass.pool;
  of_query : IsTableOf l.query (kept_by l.pass);
  most : l.pass.groups.most ≡ l.fn.pass.groups.most;
  fits : (n : ℕ) → HaveAtMost n (groups_in (kept_by l.fn.pass)) → HaveAtMost (n + l.at * 1048576) (groups_in (kept_by l.pass));
  so_far : AddsFirst l.query l.table (g.S.Shelf.held l.fn.shelf) l.stored l.at (kept_by l.fn.pass) (kept_by l.pass);
  wants : l.pass.wants_lines ≡ l.fn.pass.wants_lines;
  lines : l.fn.pass.wants_lines ≡ true → HasLines (stats_line l.query l.table) l.table (g.S.Shelf.held l.fn.shelf) l.stored l.at l.pass.lines.items;
  opens : (k : ℕ) → k < l.at → HasOpeningIn l.table (g.S.Shelf.held l.fn.shelf) (segment_at l.stored k);
  reads : OnlyReads ⊥ (seen g.S.Shelf l.fn.shelf) (seen g.S.Shelf l.shelf);
  log : LogsOf l.stored (g.S.Shelf.log l.fn.shelf) (g.S.Shelf.log l.shelf);
  files : LogsWhere (IsFileBefore l.stored l.at) (g.S.Shelf.log l.fn.shelf) (g.S.Shelf.log l.shelf);
  each : LogsEach (ReadsPlanned l.query l.table true) l.table (g.S.Shelf.held l.fn.shelf) l.stored l.at (g.S.Shelf.log l.fn.shelf) (g.S.Shelf.log l.shelf);
}
