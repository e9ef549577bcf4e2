use Rattle.std.proofs.Common.{length, take}
use Rattle.values.specs.Columns.{rows_of}
use Rattle.csv_text.specs.Cells.{IsPut}
use Rattle.csv_text.specs.Coded.{listed_columns}
use Rattle.csv_text.specs.Rows.{records_text}
use Rattle.csv_text.proofs.rows.put_rows.Given as goal

-- the records so far
abbrev pub invariant-rows : goal.invariant-rows
invariant-rows l = IsPut l.fn.text.items (length l.fn.text.items) (records_text (take l.row (rows_of (listed_columns l.rows l.columns)))) l.text.items l.end
