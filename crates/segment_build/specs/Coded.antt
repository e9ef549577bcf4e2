-- Columns of rows by the ids of their values.
use Rattle.std.specs.Prelude.{◌≡◌, ◌<◌, ◌≤◌, ◌⊎◌, ℕ, ℤ, List, [], true, false, length, map, get_or, Option, Some, None}
use Rattle.std.specs.List.Sorted.{IsNonDecreasing}
use Rattle.values.specs.declared.value.Value.{Value}
use Rattle.values.specs.declared.value.Value.TheVariants.{Text}
use Rattle.values.specs.Columns.{Listed, ListedColumns}
use Rattle.values.specs.Kinds.{is_of}
use Rattle.value_ids.specs.Coding.{AreBelow, values_at}
use Rattle.value_ids.specs.Dictionary.{Distinct, distinct}
use Rattle.table_schema.specs.declared.table.Table.{Table}
use Rattle.segment_file.specs.Columns.{kind_at}
use Rattle.segment_build.specs.declared.coded.CodedColumn.{CodedColumn}
use Rattle.segment_build.specs.declared.coded.CodedColumns.{CodedColumns}
use Rattle.segment_build.specs.declared.coded.ColumnValues.{ColumnValues}
use Rattle.segment_build.specs.declared.coded.ColumnValues.TheVariants as held
use Rattle.segment_build.specs.declared.coding.RowOrder.{RowOrder}
use Rattle.segment_build.specs.declared.indexes.Indexes.{Indexes}
use Rattle.segment_build.specs.Arranging.{arranged, places_in}
use Rattle.segment_build.specs.Fitting.{AreOfTable}
use Rattle.segment_build.specs.Numbers.{numbers_in}

-- the dictionary, lent or not
abbrev pub dictionary_in : ColumnValues → Distinct
dictionary_in (held.Lent d) = d.now
dictionary_in (held.Own d) = d

-- the dictionary of a coded column
abbrev pub dictionary_of_ids : CodedColumn → Distinct
dictionary_of_ids c = dictionary_in c.values

-- the values of the rows in it
abbrev pub row_values : CodedColumn → List Value
row_values c = values_at (dictionary_of_ids c).values c.ids

-- the columns of values
abbrev pub decoded : CodedColumn → Listed
decoded c = record { are_texts = is_of (dictionary_of_ids c).kind (Text []); values = row_values c }

abbrev pub columns_in : CodedColumns → ListedColumns
columns_in coded = record { columns = map decoded coded.columns.items; count = coded.rows }

-- the ids of the rows in a column
abbrev pub ids_at : CodedColumns → ℕ → List ℕ
ids_at coded column = get_or (map (λ c. c.ids) coded.columns.items) column []

-- each id is one of a value, and each value is one of a row
pub record IsCoding (c : CodedColumn) : Type 0 where
  pub below : AreBelow (length (dictionary_of_ids c).values) c.ids
  pub are : (dictionary_of_ids c).values ≡ distinct (row_values c)

-- so are those of each column
abbrev pub AreCodings : CodedColumns → Type 0
AreCodings coded = (at : ℕ) (c : CodedColumn) → at < length coded.columns.items
    → c ≡ get_or coded.columns.items at c → IsCoding c

-- the columns of rows of a valid table, each of the kind of its field
pub record AreCoded (table : Table) (coded : CodedColumns) : Type 0 where
  pub of_table : AreOfTable table (columns_in coded)
  pub each : AreCodings coded
  pub kinds : (at : ℕ) (c : CodedColumn) → at < length coded.columns.items
      → c ≡ get_or coded.columns.items at c → (dictionary_of_ids c).kind ≡ kind_at table at

-- the ids of a column's rows in their order are few, and those of the sorted one ascend
pub record MayPush (c : CodedColumn) (order : RowOrder) (indexes : Indexes) : Type 0 where
  pub within : AreBelow (length c.ids) (places_in order)
  pub at_most : length (arranged 0 order c.ids) ≤ 1048576
  pub below : AreBelow (length (dictionary_of_ids c).values) (arranged 0 order c.ids)
  pub ascend : indexes.sorted ≡ true → IsNonDecreasing (arranged 0 order c.ids)

-- ---- their numbers

-- a column without values
abbrev pub no_values : Listed
no_values = record { are_texts = false; values = [] }

-- of each column its numbers, or none yet
pub record HaveNumbers (t : ListedColumns) (lists : List (List ℤ)) : Type 0 where
  pub many : length lists ≡ length t.columns
  pub each : (at : ℕ) → (get_or lists at [] ≡ [])
      ⊎ (get_or lists at [] ≡ numbers_in (get_or t.columns at no_values))

-- the numbers of the column of a pair are there, if it has one
abbrev pub AreThere : ListedColumns → List (List ℤ) → Option ℕ → Type 0
AreThere t lists None = Unit {0}
AreThere t lists (Some column) = get_or lists column [] ≡ numbers_in (get_or t.columns column
    no_values)

-- the numbers of one more column are there, and those that were there still are
pub record GainsNumbers (t : ListedColumns) (column : ℕ) (old new : List (List ℤ)) : Type 0 where
  pub have : HaveNumbers t new
  pub there : AreThere t new (Some column)
  pub kept : (other : ℕ) → AreThere t old (Some other) → AreThere t new (Some other)
