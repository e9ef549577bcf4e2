-- The text of the rows that a file spells.
use Rattle.std.proofs.Common.{◌≡◌, ℕ, List, All, Option, Some, None, map, length, refl}
use Rattle.outside.specs.Files.{Files}
use Rattle.values.specs.Columns.{rows_of}
use Rattle.values.specs.declared.value.Value.{Value}
use Rattle.table_schema.specs.declared.table.Table.{Table}
use Rattle.csv_text.specs.Coded.{IsCodedColumn, listed, listed_columns}
use Rattle.csv_text.specs.Rows.{rows_text}
use Rattle.csv_text.specs.declared.coded.CodedColumn.{CodedColumn}
use Rattle.csv_text.proofs.CellLemmas.{counts_of}
use Rattle.segment_file.specs.Names.{IsSegmentOf}
use Rattle.segment_check.specs.Calls.{OfBytes}
use Rattle.segment_check.specs.Checked.{Spells}
use Rattle.segment_check.specs.Reading.{AreColumns, IsFileHead, IsSomeHead}
use Rattle.segment_check.specs.declared.head.FileHead.{FileHead}
use Rattle.segment_check.proofs.RowLemmas.{of_fields}
use Rattle.segment_check.proofs.Sameness.{rows_spelled}

-- the rows that a told file spells, and a text of them
said_so : (table : Table) (name file text : List ℕ) (held : Option Files) (rows : List (List Value)) → OfBytes held file (λ bytes. Spells table name bytes rows) → text ≡ rows_text table.schema.fields rows
    → OfBytes held file (λ bytes. (rs : List (List Value)) × Spells table name bytes rs × (text ≡ rows_text table.schema.fields rs))
said_so table name file text None rows spells is = tt
said_so table name file text (Some files) rows spells is = (rows, spells, is)

pub text_spelled : (table : Table) (name file text : List ℕ) (held : Option Files) (read : FileHead) (columns : List CodedColumn) → IsSegmentOf table name → IsSomeHead table name read → OfBytes held file (λ bytes. IsFileHead table name file bytes read)
    → All (IsCodedColumn read.head.rows) columns → AreColumns held read.head (length table.schema.fields) (map listed columns) → text ≡ rows_text table.schema.fields (rows_of (listed_columns read.head.rows columns))
    → OfBytes held file (λ bytes. (rs : List (List Value)) × Spells table name bytes rs × (text ≡ rows_text table.schema.fields rs))
text_spelled table name file text held read columns asked some told coded are is =
    let counts = counts_of read.head.rows columns coded in
    said_so table name file text held (rows_of (listed_columns read.head.rows columns))
    (rows_spelled table name file held read (listed_columns read.head.rows columns) asked.valid asked.name told counts refl are
    (of_fields table name read held (listed_columns read.head.rows columns) some counts refl are)) is
