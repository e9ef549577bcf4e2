use Rattle.std.proofs.Common.{◌≡◌, ◌+◌, ◌*◌}
use Rattle.csv_row.specs.Row.{cell_value}
use Rattle.csv_ingest.specs.Parts.{AddsValues, cell_at}
use Rattle.csv_ingest.proofs.part_columns.push_cells.Given as goal

abbrev pub invariant-rows : goal.invariant-rows
invariant-rows l = record {
  place : l.place ≡ l._i * l.part.step + l.at;
  added : AddsValues (λ r. cell_value l.field (cell_at l.part.text.now l.part.places.now (r * l.part.step + l.at))) l._i l.fn.column l.column;
}
