-- What `build` makes of its file, and what it does over any published files.
use Rattle.std.specs.Prelude.{◌≡◌, ◌⊎◌, ℕ, nat_le, nat_lt, is_some, List, ◌++◌, length, codes, Option, Some, None, Result, Ok, Err, if◌then◌else◌}
use Rattle.std.specs.Fmt.{decimal}
use Rattle.std.specs.FinMap as map
use Rattle.outside.specs.Files.{Files, with_file}
use Rattle.values.specs.declared.value.Value.{Value}
use Rattle.schema_json.specs.Schemas.{schema_read}
use Rattle.json_keys.specs.declared.fault.TextFault.{TextFault}
use Rattle.settings_json.specs.TableTexts.{settings_read}
use Rattle.table_schema.specs.declared.field.Field.{Field}
use Rattle.table_schema.specs.declared.field.Schema.{Schema}
use Rattle.table_schema.specs.declared.settings.Settings.{Settings}
use Rattle.table_schema.specs.declared.table.Table.{Table}
use Rattle.csv_row.specs.Row.{csv_limits}
use Rattle.csv_ingest.specs.Rows.{records_of, rows_in}
use Rattle.csv_row.specs.declared.fault.CsvFault.{CsvFault}
use Rattle.segment_build.specs.Growing.{trees_fit}
use Rattle.segment_file.specs.Image.{CanHold, image}
use Rattle.segment_file.specs.Names.{IsSegmentName, file_of}
use Rattle.table_store.specs.Segments.{HasRoom, HasSegment, IsFull, LacksSegment, most_segments}
use Rattle.table_store.specs.State.{Segments, Texts}
use Rattle.command_words.specs.Command.{CsvFile, GeneratedRows, RowSource}
use Rattle.command_words.specs.Notes.{csv_note}
use Rattle.command_model.specs.Generated.{rows_generated}
use Rattle.command_model.specs.Profile.{csv_limit, tree_limit}
use Rattle.command_model.specs.Stored.{HasTableFile, TableRefuses}
use Rattle.command_words.specs.declared.note.Counted.TheVariants as counted
use Rattle.command_words.specs.declared.note.Note.{Note}
use Rattle.command_words.specs.declared.note.Note.TheVariants as note

-- ---- the table

-- the table of a schema, where the settings of its fields are accepted
abbrev pub with_settings : Schema → Result Settings TextFault → Option Table
with_settings schema (Ok settings) = Some (record { schema = schema; settings = settings })
with_settings schema (Err fault) = None

-- the table of settings, where the schema is accepted
abbrev pub with_schema : List ℕ → Result Schema TextFault → Option Table
with_schema settings (Ok schema) = with_settings schema (settings_read schema.fields settings)
with_schema settings (Err fault) = None

-- the table that the texts of a store are read as, if the checks accept them
unfoldable pub table_of : Texts → Option Table
table_of texts = with_schema texts.settings (schema_read texts.schema)

-- ---- the rows

-- rows, or what is told of the text that has none
abbrev pub noted : Result (List (List Value)) CsvFault → Result (List (List Value)) Note
noted (Ok rows) = Ok rows
noted (Err fault) = Err (csv_note fault)

-- the rows over these fields in the bytes of a file, if there is one and it is within the limit
unfoldable pub csv_rows : List Field → List ℕ → Option (List ℕ) → Result (List (List Value)) Note
csv_rows fields file None = Err (note.NoInput file)
csv_rows fields file (Some bytes) =
    if nat_lt csv_limit (length bytes) then Err (note.TooLarge counted.CsvBytes csv_limit)
    else noted (rows_in csv_limits fields (records_of bytes))

-- rows of which each star-tree takes no more bytes than one may
unfoldable pub fitting : Table → Result (List (List Value)) Note → Result (List (List Value)) Note
fitting table (Err line) = Err line
fitting table (Ok rows) = if trees_fit table rows then Ok rows else Err
    (note.TooLarge counted.TreeBytes tree_limit)

-- the rows of a segment of the table in the bytes of a file, if there is one
abbrev pub segment_rows : Table → List ℕ → Option (List ℕ) → Result (List (List Value)) Note
segment_rows table file bytes = fitting table (csv_rows table.schema.fields file bytes)

-- the rows over these fields that come from there
abbrev pub source_rows : List Field → RowSource → Files → Result (List (List Value)) Note
source_rows fields (CsvFile csv) inputs = csv_rows fields csv (map.get inputs csv)
source_rows fields (GeneratedRows rows) inputs = rows_generated fields rows

-- the rows of a segment of the table that come from there
abbrev pub rows_from : Table → RowSource → Files → Result (List (List Value)) Note
rows_from table source inputs = fitting table (source_rows table.schema.fields source inputs)

-- the rows for a new segment: none of these has its name, and there may be one more
abbrev pub new_rows : Table → Segments → List ℕ → RowSource → Files
    → Result (List (List Value)) Note
new_rows table segments name source inputs =
    if is_some (map.get segments name) then Err (note.NameTaken name)
    else if nat_le most_segments (map.len segments) then Err
    (note.TooLarge counted.Segments most_segments)
    else rows_from table source inputs

-- what is said of a segment of rows that was published
abbrev pub built_text : List ℕ → List (List Value) → List ℕ
built_text name rows = codes "built " ++ name ++ codes ", " ++ decimal (length rows)
    ++ codes " rows\n"

-- ---- over any published files

-- the table of a store has no segment of this name, and room for one more
pub record HasPlace (files : Files) (name : List ℕ) (table : Table) : Type 0 where
  pub table_is : HasTableFile files table
  pub free : LacksSegment (Some files) name
  pub room : HasRoom files

-- there is a table, and a segment of this name
pub record IsTaken (files : Files) (name : List ℕ) (line : Note) : Type 0 where
  pub table : Table
  pub table_is : HasTableFile files table
  pub there : HasSegment (Some files) name
  pub line_is : line ≡ note.NameTaken name

-- there is a table, and no segment of this name, but as many as there may be
pub record AreMany (files : Files) (name : List ℕ) (line : Note) : Type 0 where
  pub table : Table
  pub table_is : HasTableFile files table
  pub free : LacksSegment (Some files) name
  pub full : IsFull files
  pub line_is : line ≡ note.TooLarge counted.Segments most_segments

-- what a refusal of the place for a segment of this name tells: that name, or the most segments
abbrev pub IsLineOfPlace : List ℕ → Note → Type 0
IsLineOfPlace name (note.NameTaken taken) = taken ≡ name
IsLineOfPlace name (note.TooLarge counted.Segments limit) = limit ≡ most_segments
IsLineOfPlace name other = Unit {0}

-- there are no rows for a segment of the table
pub record LacksRows (inputs files : Files) (name : List ℕ) (source : RowSource) (line : Note)
    : Type 0 where
  pub table : Table
  pub place : HasPlace files name table
  pub rows_are : rows_from table source inputs ≡ Err line

-- why a store has no place for a segment of this name
abbrev pub PlaceRefuses : List ℕ → Files → Note → Type 0
PlaceRefuses name files line = TableRefuses files line ⊎ IsTaken files name line
    ⊎ AreMany files name line

-- why `build` is refused
abbrev pub BuildRefuses : List ℕ → RowSource → Files → Files → Note → Type 0
BuildRefuses name source inputs files line = PlaceRefuses name files line
    ⊎ LacksRows inputs files name source line

-- the segment of the rows was published
pub record IsBuilt (inputs files : Files) (name : List ℕ) (source : RowSource) (text : List ℕ)
    (new : Option Files) : Type 0 where
  pub named : IsSegmentName name
  pub table : Table
  pub place : HasPlace files name table
  pub rows : List (List Value)
  pub rows_are : rows_from table source inputs ≡ Ok rows
  pub can : CanHold table rows
  pub text_is : text ≡ built_text name rows
  pub leaves : new ≡ with_file (file_of name) (image 1 table name rows) (Some files)
