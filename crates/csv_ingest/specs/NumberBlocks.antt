-- A text of whole numbers, whose rows are read block by block.
use Rattle.std.specs.Prelude.{◌≡◌, ◌≢◌, ◌<◌, ◌≤◌, ◌+◌, ◌^◌, ℕ, List, [], length, Bool, false, ⊤, Option, MatchOption, Result, Ok, Err, IfOk, IfErr, IfSome}
use Rattle.std.specs.List.{All}
use Rattle.csv.specs.Reading.{default_config, records_from}
use Rattle.csv.specs.Records.{fields_of}
use Rattle.csv.specs.declared.parser.State.TheVariants as st
use Rattle.values.specs.Columns.{Listed, ListedColumns, rows_of}
use Rattle.values.specs.declared.value.Value.{Value}
use Rattle.table_schema.specs.declared.field.Field.{Field}
use Rattle.table_schema.specs.declared.field.Schema.{Schema}
use Rattle.csv_ingest.specs.declared.blocks.NumberBlocks.{NumberBlocks}
use Rattle.csv_ingest.specs.declared.blocks.NumberHeader.{NumberHeader}
use Rattle.csv_ingest.specs.declared.blocks.Source.{Source}
use Rattle.csv_ingest.specs.declared.blocks.Source.TheVariants as source
use Rattle.csv_row.specs.Row.{csv_limits}
use Rattle.csv_row.specs.declared.fault.CsvFault.{CsvFault}
use Rattle.csv_row.specs.declared.fault.CsvFault.TheVariants.{NoMemory}
use Rattle.csv_ingest.specs.Blocks.{RowsOrFault, rows_from, text_limit}
use Rattle.csv_row.specs.InOrder.{after}
use Rattle.csv_ingest.specs.Kept.{AreKept}
use Rattle.csv_ingest.specs.Lines.{AtLineEnd}
use Rattle.csv_ingest.specs.Names.{number_name}
use Rattle.csv_ingest.specs.Reading.{Reads, TextReader, records_left}
use Rattle.csv_ingest.specs.Rows.{header_of, number_rows_in, with_schema}

-- the fields are the columns that the names make
pub record IsNumberHeader (header : NumberHeader) : Type 0 where
  pub at_most : length (fields_of header.names) ≤ 64
  pub fields : header_of number_name (fields_of header.names) ≡ Ok header.fields

-- the header is one, and rows can be counted by 32-bit numbers
pub record IsNumberBlocks (blocks : NumberBlocks) : Type 0 where
  pub header : IsNumberHeader blocks.header
  pub at_most : blocks.before + blocks.left < 2 ^ 31

-- what the records that are left give, where some may be left
pub record HasRows (fields : List Field) (header : List (List ℕ)) (reader : TextReader)
    (before left : ℕ) (whole : RowsOrFault) : Type 0 where
  pub rest : List ℕ
  pub reads : Reads reader rest
  pub is : whole ≡ rows_from before fields header (records_left left reader rest)

-- the same where the text is left from the end of a line on
pub record HasLines (fields : List Field) (header : List (List ℕ)) (text : List ℕ) (before left : ℕ)
    (whole : RowsOrFault) : Type 0 where
  pub at_end : AtLineEnd text
  pub is : whole ≡ rows_from before fields header
      (records_from default_config left st.StartRecord text)

-- either
abbrev pub HasLeft : List Field → List (List ℕ) → Source → ℕ → ℕ → RowsOrFault → Type 0
HasLeft fields header (source.Records reader) before left whole = HasRows fields header reader
    before left whole
HasLeft fields header (source.Lines text) before left whole = HasLines fields header text.now before
    left whole

-- the text is read by records
abbrev pub IsByRecords : Source → Type 0
IsByRecords (source.Records reader) = ⊤
IsByRecords (source.Lines text) = ⊥

-- the text gives these rows from here on, or this fault
pub record Gives (blocks : NumberBlocks) (whole : RowsOrFault) : Type 0 where
  pub none : blocks.left ≡ 0 → whole ≡ Ok []
  pub some : 0 < blocks.left
      → HasLeft blocks.header.fields
      (fields_of blocks.header.names) blocks.source blocks.before blocks.left whole

-- and with the fields this table, or this fault
pub record GivesTable (blocks : NumberBlocks) (table : Result (Schema × List (List Value)) CsvFault)
    : Type 0 where
  pub rows : RowsOrFault
  pub gives : Gives blocks rows
  pub is : table ≡ with_schema blocks.header.fields rows

-- a column of numbers for each field
pub record AreNumbers (fields : List Field) (columns : List Listed) : Type 0 where
  pub width : length columns ≡ length fields
  pub numbers : All (λ column. column.are_texts ≡ false) columns

-- some rows were read: what is left has the same header
pub record GoesOn (old new : NumberBlocks) : Type 0 where
  pub blocks : IsNumberBlocks new
  pub header : new.header ≡ old.header

-- the rows of some columns come next in the text, and then what is left gives more; in columns that
-- are not kept there may be other values
pub record GivesBlock (kept : List Bool) (new : NumberBlocks) (whole : RowsOrFault)
    (columns : ListedColumns) : Type 0 where
  pub read : ListedColumns
  pub same : AreKept kept read columns
  pub more : RowsOrFault
  pub gives : Gives new more
  pub is : whole ≡ after (rows_of read) more

-- the next rows are given, if any are left, or else the text's fault
pub record GivesNext (kept : List Bool) (old new : NumberBlocks)
    (result : Result (Option ListedColumns) CsvFault) : Type 0 where
  pub goes_on : GoesOn old new
  pub ok : IfOk result (λ block. (whole : RowsOrFault) → Gives old whole
      → MatchOption block (whole ≡ Ok []) (GivesBlock kept new whole))
  pub numbers : IfOk result (λ block. IfSome block (λ columns.
      AreNumbers old.header.fields columns.columns))
  pub fewer : IfOk result (λ block. IfSome block (λ _. new.left < old.left))
  pub count : IfOk result (λ block. IfSome block (λ columns.
      columns.count + new.left ≤ old.left))
  pub err : IfErr result (λ fault. fault ≢ NoMemory → (whole : RowsOrFault) → Gives old whole
      → whole ≡ Err fault)

-- a text of these records is begun, or refused for the first fault that it has, unless memory ran
-- out
pub record Begins (records : List (List (List ℕ))) (result : Result NumberBlocks CsvFault)
    : Type 0 where
  pub blocks : IfOk result IsNumberBlocks
  pub at_most : IfOk result (λ b. b.left ≤ text_limit)
  pub ok : IfOk result (λ b. GivesTable b (number_rows_in csv_limits records))
  pub err : IfErr result (λ fault. fault ≢ NoMemory → number_rows_in csv_limits records ≡ Err fault)
