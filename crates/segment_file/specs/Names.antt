-- The names of segments.
use Rattle.std.specs.Prelude.{◌≡◌, ℕ, Bool, true, ◌==◌, ◌&&◌, ◌||◌, nat_le, nat_lt, List, length, codes, ◌++◌}
use Rattle.std.specs.List.{list_all}
use Rattle.table_schema.specs.ValidTable.{IsValidTable}
use Rattle.table_schema.specs.declared.table.Table.{Table}

-- a letter, a digit, `_` or `-`
abbrev pub is_name_byte : ℕ → Bool
is_name_byte byte = (nat_le 65 byte && nat_le byte 90) || (nat_le 97 byte && nat_le byte 122)
    || (nat_le 48 byte && nat_le byte 57) || byte == 95 || byte == 45

-- 1 to 64 of these bytes
pub record IsSegmentName (name : List ℕ) : Type 0 where
  pub some : nat_lt 0 (length name) ≡ true
  pub at_most : nat_le (length name) 64 ≡ true
  pub each : list_all is_name_byte name ≡ true

-- the same as a test
abbrev pub is_segment_name : List ℕ → Bool
is_segment_name name = nat_lt 0 (length name) && nat_le (length name) 64
    && list_all is_name_byte name

-- this may be the name of a segment of the table
pub record IsSegmentOf (table : Table) (text : List ℕ) : Type 0 where
  pub valid : IsValidTable table
  pub name : IsSegmentName text

-- the file that a segment is published as
abbrev pub file_of : List ℕ → List ℕ
file_of name = name ++ codes ".seg"
