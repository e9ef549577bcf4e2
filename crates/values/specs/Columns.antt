-- Columns of one length, and the rows that they are.
use Rattle.std.specs.Prelude.{◌≡◌, ℕ, Bool, true, false, List, [], ◌∷◌, ◌++◌, length, map, get_or, pos, replicate}
use Rattle.values.specs.declared.value.Value.{Value}
use Rattle.values.specs.declared.value.Value.TheVariants.{Whole, Text}

-- the values of a column: all are texts, or none is
pub record Listed : Type 0 where
  pub are_texts : Bool
  pub values : List Value

-- columns of one length, and how many rows they are
pub record ListedColumns : Type 0 where
  pub columns : List Listed
  pub count : ℕ

-- whether a value is a text
abbrev pub is_text : Value → Bool
is_text (Whole number) = false
is_text (Text text) = true

-- the column with one more value at its end
abbrev pub pushed : Listed → Value → Listed
pushed column value = record { are_texts = column.are_texts; values = column.values ++ value ∷ [] }

-- the column has so many values
abbrev pub Counts : ℕ → Listed → Type 0
Counts count column = length column.values ≡ count

-- rows with one more value at the front of each
abbrev pub fronted : List Value → List (List Value) → List (List Value)
fronted [] rows = []
fronted (value ∷ values) [] = []
fronted (value ∷ values) (row ∷ rows) = (value ∷ row) ∷ fronted values rows

-- the first so many rows of these columns
abbrev pub rows_in_columns : ℕ → List Listed → List (List Value)
rows_in_columns count [] = replicate count []
rows_in_columns count (column ∷ columns) = fronted column.values (rows_in_columns count columns)

-- the rows that columns are: of each row a value from each column
abbrev pub rows_of : ListedColumns → List (List Value)
rows_of t = rows_in_columns t.count t.columns

-- the columns with the values of a row at their ends, as far as the row has some
abbrev pub row_pushed : List Listed → List Value → List Listed
row_pushed [] row = []
row_pushed (column ∷ columns) [] = column ∷ columns
row_pushed (column ∷ columns) (value ∷ row) = pushed column value ∷ row_pushed columns row

-- one of the rows
abbrev pub row_of : List Listed → ℕ → List Value
row_of columns at = map (λ c. get_or c.values at (Whole (pos 0))) columns
