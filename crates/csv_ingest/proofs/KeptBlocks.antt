-- Blocks of which all columns are kept.
use Rattle.std.proofs.Common.{◌≡◌, ◌∙◌, [], Option, Some, None, MatchOption, Result, Ok, Err, IfOk, sym, ap}
use Rattle.values.specs.Columns.{ListedColumns, rows_of}
use Rattle.csv_row.specs.InOrder.{after}
use Rattle.csv_row.specs.declared.fault.CsvFault.{CsvFault}
use Rattle.csv_ingest.specs.Blocks.{RowsOrFault}
use Rattle.csv_ingest.specs.NumberBlocks.{Gives, GivesBlock}
use Rattle.csv_ingest.specs.declared.blocks.NumberBlocks.{NumberBlocks}
use Rattle.csv_ingest.proofs.KeptLines.{same-rows}

module _ (old new : NumberBlocks) where
  block-all : (whole : RowsOrFault) (block : Option ListedColumns) → MatchOption block (whole ≡ Ok []) (GivesBlock [] new whole)
      → MatchOption block (whole ≡ Ok []) (λ columns. (more : RowsOrFault) × Gives new more × (whole ≡ after (rows_of columns) more))
  block-all whole None m = m
  block-all whole (Some columns) g = (g.more, g.gives, g.is ∙ ap (λ rows. after rows g.more) (sym (same-rows g.read columns g.same)))

  pub next-all : (result : Result (Option ListedColumns) CsvFault) → IfOk result (λ block. (whole : RowsOrFault) → Gives old whole → MatchOption block (whole ≡ Ok []) (GivesBlock [] new whole))
      → IfOk result (λ block. (whole : RowsOrFault) → Gives old whole → MatchOption block (whole ≡ Ok []) (λ columns. (more : RowsOrFault) × Gives new more × (whole ≡ after (rows_of columns) more)))
  next-all (Ok block) ok = λ whole h. block-all whole block (ok whole h)
  next-all (Err fault) ok = tt
