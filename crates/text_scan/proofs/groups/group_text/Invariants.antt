use Rattle.csv_ingest.specs.Blocks.{text_limit}
use Rattle.std.proofs.Common.{◌≡◌, ◌+◌, ◌≤◌, ℕ, List}
use Rattle.values.specs.declared.value.Value.{Value}
use Rattle.csv_ingest.specs.Blocks.{RowsOrFault}
use Rattle.csv_row.specs.InOrder.{after}
use Rattle.csv_ingest.specs.NumberBlocks.{Gives, IsNumberBlocks}
use Rattle.group_table.specs.Groups.{groups_of}
use Rattle.group_table.specs.Kept.{IsTableOf, groups_in}
use Rattle.group_table.specs.Pooled.{StaysIn, in_pool}
use Rattle.group_table.specs.Shape.{shape_of}
use Rattle.scan_engine.specs.Scanned.{HaveAtMost, selected}
use Rattle.text_scan.specs.Named.{AgreeAll, is_marked}
use Rattle.text_scan.proofs.groups.group_text.Given as goal

abbrev pub invariant-reading : goal.invariant-reading
invariant-reading l = record {
  blocks : IsNumberBlocks l.blocks;
  table : IsTableOf l.bound (in_pool l.table l.pool);
  most : l.table.most ≡ l.fn.table.most;
  stays : StaysIn l.fn.table l.fn.pool l.table l.pool;
  fits : (n : ℕ) × HaveAtMost n (groups_in (in_pool l.table l.pool)) × (n + l.blocks.left ≤ text_limit);
  so_far : (whole : RowsOrFault) → Gives l.fn.blocks whole → (done : List (List Value)) × (seen : List (List Value)) × (more : RowsOrFault) × Gives l.blocks more × (whole ≡ after done more)
      × AgreeAll (is_marked l.named.items) done seen × (groups_in (in_pool l.table l.pool) ≡ groups_of (shape_of l.bound) (selected l.bound seen));
}

abbrev pub decreases-reading : goal.decreases-reading
decreases-reading l = l.blocks.left
