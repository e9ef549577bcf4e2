-- What the two files of `create` make.
use Rattle.std.specs.Prelude.{ℕ, nat_lt, List, [], length, Option, Some, None, Result, Ok, Err, if◌then◌else◌}
use Rattle.std.specs.FinMap as map
use Rattle.outside.specs.Files.{Files}
use Rattle.schema_json.specs.Schemas.{schema_read}
use Rattle.settings_json.specs.TableTexts.{settings_read}
use Rattle.json_keys.specs.declared.fault.KeyKind.{KeyKind}
use Rattle.json_keys.specs.declared.fault.KeyKind.TheVariants as key
use Rattle.json_keys.specs.declared.fault.TextFault.{TextFault}
use Rattle.json_keys.specs.declared.fault.TextFault.TheVariants as fault
use Rattle.table_schema.specs.declared.field.Schema.{Schema}
use Rattle.table_schema.specs.declared.settings.Settings.{Settings}
use Rattle.table_schema.specs.declared.table.Table.{Table}
use Rattle.table_store.specs.State as state
use Rattle.table_store.specs.TableFile.{text_limit}
use Rattle.command_words.specs.Command.{GeneratedTexts, TextFiles, TextSource}
use Rattle.command_model.specs.Generated.{generated_schema, generated_settings, most_generated}
use Rattle.command_words.specs.declared.note.Counted.TheVariants.{JsonBytes, Rows}
use Rattle.command_words.specs.declared.note.Note.{Note}
use Rattle.command_words.specs.declared.note.Note.TheVariants.{BadSchema, BadSettings, NoInput, TooLarge}

-- the texts of a table and what they are read as, or the first thing that is wrong with them
abbrev pub Made : Type 0
Made = Result (state.Texts × Table) Note

-- the bytes of a file, if it is there and within the limit
abbrev pub json_bytes : List ℕ → Option (List ℕ) → Result (List ℕ) Note
json_bytes file None = Err (NoInput file)
json_bytes file (Some bytes) = if nat_lt text_limit (length bytes) then Err
    (TooLarge JsonBytes text_limit) else Ok bytes

-- the bytes of an input file in JSON
abbrev pub json_in : List ℕ → Files → Result (List ℕ) Note
json_in file inputs = json_bytes file (map.get inputs file)

-- a text and what it is read as, where the checks accept it
abbrev pub beside : {A : Type 0} → (KeyKind → List ℕ → Note) → List ℕ → Result A TextFault
    → Result (List ℕ × A) Note
beside refused bytes (Ok value) = Ok (bytes, value)
beside refused bytes (Err (fault.At wrong path)) = Err (refused wrong path)
beside refused bytes (Err fault.NoMemory) = Err (refused key.NotJson [])

-- what the bytes of a file are read as, where there are any
abbrev pub read_by : {A : Type 0} → (KeyKind → List ℕ → Note) → (List ℕ → Result A TextFault)
    → Result (List ℕ) Note → Result (List ℕ × A) Note
read_by refused read (Err line) = Err line
read_by refused read (Ok bytes) = beside refused bytes (read bytes)

-- the schema that an input file is
abbrev pub schema_in : List ℕ → Files → Result (List ℕ × Schema) Note
schema_in file inputs = read_by BadSchema schema_read (json_in file inputs)

-- the settings of its fields that an input file is
abbrev pub settings_in : Schema → List ℕ → Files → Result (List ℕ × Settings) Note
settings_in schema file inputs = read_by BadSettings (settings_read schema.fields)
    (json_in file inputs)

-- the table of a schema's text, where its settings are accepted
abbrev pub table_of : List ℕ → Schema → Result (List ℕ × Settings) Note → Made
table_of text schema (Err line) = Err line
table_of text schema (Ok (more, settings)) = Ok (
  record {
    schema = text;
    settings = more;
  },
  record { schema = schema; settings = settings },
)

-- the table of a schema and the settings' file, where the schema is accepted
abbrev pub with_settings : List ℕ → Files → Result (List ℕ × Schema) Note → Made
with_settings settings inputs (Err line) = Err line
with_settings settings inputs (Ok (text, schema)) = table_of text schema
    (settings_in schema settings inputs)

-- the table that two input files make: the schema comes first
unfoldable pub new_table : List ℕ → List ℕ → Files → Made
new_table schema settings inputs = with_settings settings inputs (schema_in schema inputs)

-- the table of a schema that is the program's own, and of its own settings
abbrev pub with_own_settings : Result (List ℕ × Schema) Note → Made
with_own_settings (Err line) = Err line
with_own_settings (Ok (text, schema)) = table_of text schema
    (beside BadSettings generated_settings (settings_read schema.fields generated_settings))

-- the program's own table, unless too many rows are to be generated
unfoldable pub own_table : ℕ → Made
own_table rows = if nat_lt most_generated rows then Err (TooLarge Rows most_generated) else
    with_own_settings (beside BadSchema generated_schema (schema_read generated_schema))

-- the table that the texts make
abbrev pub table_from : TextSource → Files → Made
table_from (TextFiles schema settings) inputs = new_table schema settings inputs
table_from (GeneratedTexts rows) inputs = own_table rows
