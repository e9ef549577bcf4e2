-- What `dump` prints of a segment is built to the same file.
use Rattle.std.specs.Prelude.{◌≡◌, ◌≤◌, ℕ, List, length, Some, Ok}
use Rattle.values.specs.declared.value.Value.{Value}
use Rattle.table_schema.specs.declared.table.Table.{Table}
use Rattle.table_schema.specs.ValidTable.{IsValidTable}
use Rattle.csv_text.specs.Laws.{AreKept}
use Rattle.segment_file.specs.Image.{image}
use Rattle.table_store.specs.Images.{IsImageOf}
use Rattle.command_model.specs.Build.{segment_rows}
use Rattle.command_model.specs.Look.{dumped_text}
use Rattle.command_model.specs.Profile.{csv_limit}

-- where the text of a dump is within the limit of a CSV file, and no text of the rows is empty in a
-- field whose default is another value, a file of that text has just the rows of the segment; so
-- the segment that is built of it under the same table and name has the same file
abbrev pub DumpBuild : Type 0
DumpBuild =
    (table : Table) (name file bytes : List ℕ) (rows : List (List Value)) → IsValidTable table
    → IsImageOf table name bytes rows → AreKept table.schema.fields rows
    → length (dumped_text table rows) ≤ csv_limit
    → (segment_rows table file (Some (dumped_text table rows)) ≡ Ok rows)
    × (image 1 table name rows ≡ bytes)
