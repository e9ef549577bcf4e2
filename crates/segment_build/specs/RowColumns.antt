-- Columns that are made of rows.
use Rattle.std.specs.Prelude.{◌≡◌, Bool, List, [], length, map}
use Rattle.std.specs.List.{All}
use Rattle.values.specs.declared.value.Value.{Value}
use Rattle.values.specs.declared.value.Value.TheVariants.{Text}
use Rattle.values.specs.Columns.{Counts, Listed, is_text, rows_in_columns}
use Rattle.values.specs.Kinds.{is_of}
use Rattle.table_schema.specs.declared.field.Field.{Field}

-- whether a field is of texts
abbrev pub is_of_texts : Field → Bool
is_of_texts field = is_of field.kind (Text [])

-- a column for each field, of texts where the field is one of texts
abbrev pub OfFields : List Field → List Listed → Type 0
OfFields fields columns = map (λ c. c.are_texts) columns ≡ map is_of_texts fields

-- a text for each column of texts, and a number for each other
abbrev pub SuitsRow : List Listed → List Value → Type 0
SuitsRow columns row = map (λ c. c.are_texts) columns ≡ map is_text row

-- the columns of these rows
pub record AreThose (columns : List Field) (rows : List (List Value)) (made : List Listed)
    : Type 0 where
  pub sorts : OfFields columns made
  pub counts : All (Counts (length rows)) made
  pub are : rows_in_columns (length rows) made ≡ rows
