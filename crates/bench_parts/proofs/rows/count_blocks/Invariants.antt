use Rattle.csv_ingest.specs.NumberBlocks.{IsNumberBlocks}
use Rattle.bench_parts.proofs.rows.count_blocks.Given as goal

abbrev pub invariant-rows : goal.invariant-rows
invariant-rows l = IsNumberBlocks l.blocks

abbrev pub decreases-rows : goal.decreases-rows
decreases-rows l = l.blocks.left
