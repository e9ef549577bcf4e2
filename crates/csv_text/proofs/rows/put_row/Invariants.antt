use Rattle.std.proofs.Common.{map, take}
use Rattle.csv.specs.Writing.{default_writer, row_body}
use Rattle.csv_text.specs.Cells.{IsPut}
use Rattle.csv_text.proofs.CellLemmas.{written}
use Rattle.csv_text.proofs.rows.put_row.Given as goal

-- the fields so far
abbrev pub invariant-cells : goal.invariant-cells
invariant-cells l = IsPut l.fn.text.items l.at (row_body default_writer (map (written l.row) (take l.k l.columns))) l.text.items l.end
