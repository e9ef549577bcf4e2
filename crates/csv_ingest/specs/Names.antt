-- The names in the header of a CSV text.
use Rattle.std.specs.Prelude.{ℕ, pos, Bool, not, ◌&&◌, List, map, Result, Ok, Err, if◌then◌else◌}
use Rattle.std.specs.List.{list_any}
use Rattle.std.specs.Str.{bytes_eq, is_utf8}
use Rattle.data_types.specs.declared.kind.FieldKind.TheVariants.{Long}
use Rattle.values.specs.declared.value.Value.TheVariants.{Whole}
use Rattle.table_schema.specs.declared.field.Field.{Field}
use Rattle.table_schema.specs.declared.field.Role.TheVariants.{Metric}
use Rattle.table_schema.specs.Names.{is_column_name}
use Rattle.csv_row.specs.declared.fault.CsvKind.{CsvKind}
use Rattle.csv_row.specs.declared.fault.CsvKind.TheVariants.{NotUtf8, BadHeader, DuplicateHeader}

-- whether one of these is that name
abbrev pub is_among : List ℕ → List (List ℕ) → Bool
is_among name names = list_any (bytes_eq name) names

-- a column of whole numbers, 0 where a cell is empty
abbrev pub number_field : List ℕ → Field
number_field name = record { name = name; kind = Long; role = Metric; default = Whole (pos 0) }

-- the column that a name after these makes, where every field of the header is one
abbrev pub number_name : List (List ℕ) → List ℕ → Result Field CsvKind
number_name earlier name =
    if not (is_utf8 name) then Err NotUtf8
    else if not (is_column_name name) then Err BadHeader
    else if is_among name earlier then Err DuplicateHeader
    else Ok (number_field name)

-- the names of fields
abbrev pub names_of : List Field → List (List ℕ)
names_of fields = map (λ f. f.name) fields

-- a name after these, where a header may have more than the schema's fields
abbrev pub schema_name : List Field → List (List ℕ) → List ℕ → Result (List ℕ) CsvKind
schema_name fields earlier name =
    if not (is_utf8 name) then Err NotUtf8
    else if is_among name (names_of fields) && is_among name earlier then Err DuplicateHeader
    else Ok name
