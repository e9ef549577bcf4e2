-- The order in which a segment has its rows, by the places at which they came.
use Rattle.std.specs.Prelude.{◌≡◌, ℕ, List, [], length, map, get_or, Option, Some, option_to_list}
use Rattle.std.specs.List.{All}
use Rattle.std.specs.List.Sorted.{IsNonDecreasing}
use Rattle.values.specs.declared.value.Value.{Value}
use Rattle.value_ids.specs.Coding.{AreBelow}
use Rattle.values.specs.Columns.{ListedColumns, rows_of}
use Rattle.table_schema.specs.declared.table.Table.{Table}
use Rattle.value_ids.specs.Dictionary.{Distinct}
use Rattle.segment_file.specs.Image.{dictionary_of, ids_of, values_in}
use Rattle.segment_file.specs.Ordered.{ordered}
use Rattle.segment_build.specs.declared.coding.RowOrder.{RowOrder}
use Rattle.segment_build.specs.declared.coding.RowOrder.TheVariants.{AsGiven, ByPlaces}

-- a list in that order
abbrev pub arranged : {A : Type 0} → A → RowOrder → List A → List A
arranged d AsGiven list = list
arranged d (ByPlaces places) list = map (λ place. get_or list place d) places.items

-- the places that the order names
abbrev pub places_in : RowOrder → List ℕ
places_in AsGiven = []
places_in (ByPlaces places) = places.items

-- rows of a table with that sorted column are put in their order so, and then the ids of that
-- column ascend
pub record Orders (sorted : Option ℕ) (rows : List (List Value)) (order : RowOrder) : Type 0 where
  pub within : AreBelow (length rows) (places_in order)
  pub are : ordered sorted rows ≡ arranged [] order rows
  pub ascend : All (λ column. IsNonDecreasing (ids_of (ordered sorted rows) column))
      (option_to_list sorted)

-- the dictionary of a column of the columns' rows in their order, and the ids of these
pub record IsCoded (table : Table) (t : ListedColumns) (at : ℕ) (d : Distinct) (ids : List ℕ)
    : Type 0 where
  pub distinct_is : d ≡ dictionary_of table (ordered table.settings.sorted (rows_of t)) at
  pub ids_is : ids ≡ ids_of (ordered table.settings.sorted (rows_of t)) at

-- so are rows with these values in the sorted column
abbrev pub OrdersBy : List Value → RowOrder → Type 0
OrdersBy values order = (column : ℕ) (rows : List (List Value)) → values_in column rows ≡ values
    → Orders (Some column) rows order
