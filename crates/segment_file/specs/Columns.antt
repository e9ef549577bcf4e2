-- The columns of a segment's rows: their values, and the number of each value among the distinct
-- ones.
use Rattle.std.specs.Prelude.{ℕ, suc, List, [], ◌∷◌, map, length, slice_get, Option, Some, None, if◌then◌else◌}
use Rattle.data_types.specs.declared.kind.FieldKind.{FieldKind}
use Rattle.data_types.specs.declared.kind.FieldKind.TheVariants.{Long}
use Rattle.values.specs.declared.value.Value.{Value}
use Rattle.values.specs.Order.{value_eq}
use Rattle.table_schema.specs.declared.field.Field.{Field}
use Rattle.table_schema.specs.declared.table.Table.{Table}
use Rattle.value_ids.specs.Dictionary.{Distinct, distinct}
use Rattle.segment_file.specs.Ordered.{value_in}

-- the kind of a field, if there is one
abbrev pub kind_or : Option Field → FieldKind
kind_or None = Long
kind_or (Some field) = field.kind

-- the kind of the field of that number
abbrev pub kind_at : Table → ℕ → FieldKind
kind_at table column = kind_or (slice_get table.schema.fields column)

-- the values of the rows in a column
abbrev pub values_in : ℕ → List (List Value) → List Value
values_in column rows = map (value_in column) rows

-- the dictionary of a column
abbrev pub dictionary_of : Table → List (List Value) → ℕ → Distinct
dictionary_of table rows column = record {
  kind = kind_at table column;
  values = distinct (values_in column rows);
}

-- the number of a value among these
abbrev pub place_of : List Value → Value → ℕ
place_of [] value = 0
place_of (first ∷ values) value = if value_eq first value then 0 else suc (place_of values value)

-- the id of each row in a column: the number of its value among the distinct ones
abbrev pub ids_of : List (List Value) → ℕ → List ℕ
ids_of rows column = map (place_of (distinct (values_in column rows))) (values_in column rows)

-- how many distinct values a column has
abbrev pub count_of : List (List Value) → ℕ → ℕ
count_of rows column = length (distinct (values_in column rows))
