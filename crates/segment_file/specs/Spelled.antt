-- The rows that a file spells: in each column the ids of its forward index, and of each id the
-- value in its dictionary.
use Rattle.std.specs.Prelude.{◌≡◌, ℕ, pos, List, [], map, get_or, slice_index_or}
use Rattle.std.specs.List.{All, find, range_with_len}
use Rattle.std.specs.Option.{option_map_or}
use Rattle.values.specs.declared.value.Value.{Value}
use Rattle.values.specs.declared.value.Value.TheVariants.{Whole}
use Rattle.value_ids.specs.Coding.{values_at}
use Rattle.value_ids.specs.Dictionary.{Distinct}
use Rattle.bit_column.specs.Column.{ids_between, width_of}
use Rattle.bit_column.specs.Sections.{Readable}
use Rattle.table_schema.specs.declared.table.Table.{Table}
use Rattle.segment_file.specs.declared.part.Part.{Part}
use Rattle.segment_file.specs.declared.part.Part.TheVariants as parts
use Rattle.segment_file.specs.Front.{Extent, Front, extents_of}
use Rattle.segment_file.specs.Parts.{columns_of, is_same}
use Rattle.segment_file.specs.Reading.{count_at}
use Rattle.segment_file.specs.Rules.{KeepsAll, section_bytes}

-- the bytes of the section of this part
abbrev pub part_in : List ℕ → List Extent → Part → List ℕ
part_in bytes extents part = option_map_or (section_bytes bytes)
    (find (λ extent. is_same extent.part part) extents) []

-- the bytes of the forward index of a column
abbrev pub forward_in : Table → List ℕ → List ℕ → Front → ℕ → List ℕ
forward_in table name bytes front column = part_in bytes (extents_of table name front)
    (parts.Forward column)

-- the values of a column's dictionary
abbrev pub values_said : List Distinct → ℕ → List Value
values_said dictionaries column = slice_index_or (map (λ d. d.values) dictionaries) column []

-- the forward index of a column has an id of one of its values for each row
abbrev pub HasIds : Table → List ℕ → List ℕ → Front → List Distinct → ℕ → Type 0
HasIds table name bytes front dictionaries column =
    Readable (width_of (count_at dictionaries column)) (count_at dictionaries column) 0 front.rows
    (forward_in table name bytes front column)

-- these ids
abbrev pub ids_said : Table → List ℕ → List ℕ → Front → List Distinct → ℕ → List ℕ
ids_said table name bytes front dictionaries column =
    ids_between (width_of (count_at dictionaries column)) 0 front.rows
    (forward_in table name bytes front column)

-- the values of the rows in a column
abbrev pub column_said : Table → List ℕ → List ℕ → Front → List Distinct → ℕ → List Value
column_said table name bytes front dictionaries column =
    values_at (values_said dictionaries column)
    (ids_said table name bytes front dictionaries column)

-- the rows: of each column the value at the row's place
abbrev pub rows_said : Table → List ℕ → List ℕ → Front → List Distinct → List (List Value)
rows_said table name bytes front dictionaries = map (λ row. map (λ column.
    get_or (column_said table name bytes front dictionaries column) row (Whole (pos 0)))
    (columns_of table)) (range_with_len 0 front.rows)

-- all rules of a head hold, and the forward index of each column has an id of one of its values for
-- each row; these are the rows that are spelled
pub record SpellsRows (table : Table) (name bytes : List ℕ) (front : Front)
    (rows : List (List Value)) : Type 0 where
  pub dictionaries : List Distinct
  pub keeps : KeepsAll table name bytes front dictionaries
  pub ids : All (HasIds table name bytes front dictionaries) (columns_of table)
  pub rows_are : rows ≡ rows_said table name bytes front dictionaries
