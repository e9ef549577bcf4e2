use Rattle.std.proofs.Common.{◌≡◌, List}
use Rattle.values.specs.declared.value.Value.{Value}
use Rattle.csv_ingest.specs.Blocks.{RowsOrFault}
use Rattle.csv_row.specs.InOrder.{after}
use Rattle.csv_ingest.specs.NumberBlocks.{Gives, IsNumberBlocks}
use Rattle.text_scan.proofs.groups.pass_over.Given as goal

abbrev pub invariant-rest : goal.invariant-rest
invariant-rest l = record {
  blocks : IsNumberBlocks l.blocks;
  so_far : (whole : RowsOrFault) → Gives l.fn.blocks whole → (done : List (List Value)) × (more : RowsOrFault) × Gives l.blocks more × (whole ≡ after done more);
}

abbrev pub decreases-rest : goal.decreases-rest
decreases-rest l = l.blocks.left
