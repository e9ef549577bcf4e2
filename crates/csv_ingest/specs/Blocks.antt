-- The rows of a text, read block by block.
use Rattle.std.specs.Prelude.{◌≡◌, ◌<◌, ◌+◌, ◌++◌, ℕ, List, map, MatchBool, Result, Ok}
use Rattle.std.specs.List.{All, enumerate_from}
use Rattle.values.specs.Columns.{Counts, Listed, ListedColumns, rows_in_columns, rows_of}
use Rattle.values.specs.declared.value.Value.{Value}
use Rattle.table_schema.specs.declared.field.Field.{Field}
use Rattle.csv_row.specs.declared.fault.CsvFault.{CsvFault}
use Rattle.csv_ingest.specs.declared.rows.Added.{Added}
use Rattle.csv_ingest.specs.Reading.{Reads, TextReader, records_left}
use Rattle.csv_row.specs.InOrder.{after, all_or_first}
use Rattle.csv_row.specs.Row.{csv_limits, row_at}

-- the most bytes that a text has
abbrev pub text_limit : ℕ
text_limit = 134217728

-- the rows of a text, or its first fault
abbrev pub RowsOrFault : Type 0
RowsOrFault = Result (List (List Value)) CsvFault

-- what records give that come after so many rows
abbrev pub rows_from : ℕ → List Field → List (List ℕ) → List (List (List ℕ)) → RowsOrFault
rows_from before fields header records = all_or_first (map (row_at csv_limits fields header)
    (enumerate_from (1 + before) records))

-- so many rows were read, before those that the records give that are left now
pub record IsBlock (fields : List Field) (header : List (List ℕ)) (before count : ℕ)
    (old new : TextReader) (rest : List ℕ) (rows : List (List Value)) : Type 0 where
  pub left : List ℕ
  pub reads : Reads new left
  pub each : (n : ℕ) → rows_from before fields header (records_left (n + count) old rest)
      ≡ after rows (rows_from (before + count) fields header (records_left n new left))

-- these are all rows that were left, and fewer than there was room for
pub record IsLastBlock (fields : List Field) (header : List (List ℕ)) (before room : ℕ)
    (old : TextReader) (rest : List ℕ) (columns : ListedColumns) : Type 0 where
  pub at_most : columns.count < room
  pub all : (n : ℕ) → columns.count < n → rows_from before fields header (records_left n old rest)
      ≡ Ok (rows_of columns)

-- the block is as long as there was room for
pub record IsFullBlock (fields : List Field) (header : List (List ℕ)) (before room : ℕ)
    (old new : TextReader) (rest : List ℕ) (columns : ListedColumns) : Type 0 where
  pub full : columns.count ≡ room
  pub block : IsBlock fields header before columns.count old new rest (rows_of columns)

-- rows were added to columns: all that were left, and fewer than there was room for, or else as
-- many as there was room for
pub record AddsBlock (fields : List Field) (header : List (List ℕ)) (before room : ℕ)
    (old new : TextReader) (rest : List ℕ) (held more : List Listed) (added : Added)
    : Type 0 where
  pub rows : List (List Value)
  pub pushed : (c : ℕ) → All (Counts c) held → rows_in_columns (c + added.count) more
      ≡ rows_in_columns c held ++ rows
  pub is : MatchBool added.last
      ((added.count < room) × ((n : ℕ) → added.count < n → rows_from before fields header
      (records_left n old rest) ≡ Ok rows))
      ((added.count ≡ room) × IsBlock fields header before added.count old new rest rows)
