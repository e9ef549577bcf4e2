-- Rows by one number each, their key, which the ids of their group columns make.
use Rattle.std.specs.Prelude.{◌≡◌, ◌<◌, ◌≤◌, ◌+◌, ◌*◌, ℕ, List, [], ◌∷◌, Option, Some, None, length, get_or, take}
use Rattle.values.specs.Columns.{row_of}
use Rattle.group_table.specs.Groups.{key_of}
use Rattle.coded_columns.specs.Coded.{column_of, most_rows, table_of}
use Rattle.coded_columns.specs.declared.coded.Coded.{Coded}
use Rattle.coded_columns.specs.declared.coded.SegmentColumns.{SegmentColumns}
use Rattle.coded_columns.specs.declared.placed_rows.PlacedRows.{PlacedRows}

-- a number, and after it the id of a row in a column, if it is looked at
abbrev pub packed_with : Option Coded → ℕ → ℕ → ℕ
packed_with None key at = key
packed_with (Some column) key at =
    key * length column.dictionary.now.values + get_or column.ids.now at 0

-- a number, and after it the ids of a row in some columns
abbrev pub packed_after : SegmentColumns → ℕ → List ℕ → ℕ → ℕ
packed_after segment key [] at = key
packed_after segment key (group ∷ groups) at =
    packed_after segment (packed_with (column_of segment group) key at) groups at

-- the key of a row: its ids in the group columns as one number
abbrev pub key_at : SegmentColumns → List ℕ → ℕ → ℕ
key_at segment groups at = packed_after segment 0 groups at

-- the id of a row in a column, if it is looked at
abbrev pub IsIdAt : Option Coded → ℕ → ℕ → Type 0
IsIdAt None at id = Unit {0}
IsIdAt (Some column) at id = id ≡ get_or column.ids.now at 0

-- the ids of a row in some columns, of each that is looked at
pub record AreIdsAt (segment : SegmentColumns) (groups : List ℕ) (at : ℕ) (ids : List ℕ) : Type 0
  where
    pub count : length ids ≡ length groups
    pub each : (i : ℕ) → i < length groups
        → IsIdAt (column_of segment (get_or groups i 0)) at (get_or ids i 0)

-- a row has this id in a column
pub record IsIdOfRow (segment : SegmentColumns) (group id : ℕ) : Type 0 where
  pub row : ℕ
  pub within : row < segment.count
  pub is : IsIdAt (column_of segment group) row id

-- a row has these ids in some columns
pub record AreIdsOfRow (segment : SegmentColumns) (groups ids : List ℕ) : Type 0 where
  pub row : ℕ
  pub within : row < segment.count
  pub are : AreIdsAt segment groups row ids

-- rows of one key have one value in each group column, and there are so many keys; those of the
-- first columns alone are few too
pub record AreKeys (segment : SegmentColumns) (groups : List ℕ) (size : ℕ) : Type 0 where
  pub at_most : size ≤ most_rows
  pub below : (at : ℕ) → at < segment.count → key_at segment groups at < size
  pub parts : (i at : ℕ) → at < segment.count → key_at segment (take i groups) at < most_rows
  pub same : (at other : ℕ) → at < segment.count → other < segment.count
      → key_at segment groups at ≡ key_at segment groups other
      → key_of groups (row_of (table_of segment).columns at)
      ≡ key_of groups (row_of (table_of segment).columns other)

-- the ids of these rows in the first of some columns, however many, make small numbers
abbrev pub ArePackable : PlacedRows → List ℕ → Type 0
ArePackable placed groups = (i k : ℕ) → k < length placed.places.now
    → key_at placed.segment.now (take i groups) (get_or placed.places.now k 0) < most_rows
