-- The CSV text of rows: the names of their fields, and then a record for each.
use Rattle.std.specs.Prelude.{ℕ, Bool, List, [], ◌∷◌, ◌++◌, flat_map, if◌then◌else◌, map}
use Rattle.csv.specs.Writing.{default_writer, row_text}
use Rattle.values.specs.declared.value.Value.{Value}
use Rattle.values.specs.Printed.{text_of}
use Rattle.table_schema.specs.declared.field.Field.{Field}

-- the names of fields
abbrev pub names_of : List Field → List (List ℕ)
names_of fields = map (λ field. field.name) fields

-- a record for each of these rows
abbrev pub records_text : List (List Value) → List ℕ
records_text rows = flat_map (λ row. row_text default_writer (map text_of row)) rows

-- the names of the fields, and a record for each row
abbrev pub rows_text : List Field → List (List Value) → List ℕ
rows_text fields rows = row_text default_writer (names_of fields) ++ records_text rows

-- what ends a record, by whether it shows no byte so far
abbrev pub end_of : Bool → List ℕ
end_of blank = (if blank then 34 ∷ 34 ∷ [] else []) ++ 10 ∷ []
