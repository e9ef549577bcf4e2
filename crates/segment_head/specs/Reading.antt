-- What the look at the bytes of a head finds (inside the crate alone).
use Rattle.std.specs.Prelude.{◌<◌, ◌+◌, ℕ, List, take, drop, map, length}
use Rattle.std.specs.List.{range_with_len}
use Rattle.table_schema.specs.declared.table.Table.{Table}
use Rattle.value_ids.specs.Dictionary.{Distinct}
use Rattle.segment_file.specs.declared.section.Section.{Section}
use Rattle.segment_file.specs.Columns.{kind_at}
use Rattle.segment_file.specs.Rules.{AreSpelled, HasNodes, HaveNodes, IsSpelled, dictionary_in}

-- ---- the sections of a head

-- the bytes of a section
abbrev pub bytes_of_section : List ℕ → Section → List ℕ
bytes_of_section bytes s = take s.place.length (drop s.place.offset bytes)

-- the bytes of the first so many sections
abbrev pub heads_of : ℕ → List Section → List ℕ → List (List ℕ)
heads_of count sections bytes = map (bytes_of_section bytes) (take count sections)

-- the dictionary of this field is the first that is none
pub record StopsAt (table : Table) (rows : ℕ) (heads : List (List ℕ)) (column : ℕ) : Type 0 where
  pub field : column < length table.schema.fields
  pub before : List Distinct
  pub spelled : AreSpelled table rows heads (range_with_len 0 column) before
  pub none : (d : Distinct) → ¬ IsSpelled (kind_at table column) rows (dictionary_in heads column) d

-- the sections of the head, as its bytes say
abbrev pub heads_read : Table → List Section → List ℕ → List (List ℕ)
heads_read table sections bytes = heads_of (length table.schema.fields + 1
    + length table.settings.trees) sections bytes

-- the nodes of this tree are the first that are not in their section
pub record NodesStop (table : Table) (rows : ℕ) (heads : List (List ℕ)) (t : ℕ) : Type 0 where
  pub tree : t < length table.settings.trees
  pub before : HaveNodes table rows heads t
  pub none : ¬ HasNodes table rows heads t
