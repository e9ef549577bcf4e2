-- Heads: what is kept of a segment's file where its rows are not read.
use Rattle.std.specs.Prelude.{◌≡◌, ◌≢◌, ◌≤◌, ◌<◌, ◌^◌, ◌+◌, ◌⊎◌, ℕ, List, [], ◌∷◌, map, length, Option, Some, None, IfSome, option_map, slice_get, slice_index_or, slice_set}
use Rattle.std.specs.List.{All, AllZip, find}
use Rattle.std.specs.Option.{option_map_or}
use Rattle.outside.specs.Files.{Files, bytes_of}
use Rattle.outside.specs.Reads.{Entry, LogsThrough, LogsUpTo}
use Rattle.outside.specs.declared.place.Place.{Place}
use Rattle.agg_laws.specs.declared.tree_shape.TreeShape.{TreeShape}
use Rattle.table_schema.specs.declared.table.Table.{Table}
use Rattle.table_schema.specs.ValidTable.{most_rows}
use Rattle.value_ids.specs.Dictionary.{Distinct}
use Rattle.bit_column.specs.Sections.{section}
use Rattle.star_file.specs.Rules.{KeepAll}
use Rattle.segment_file.specs.declared.bounds.Ends.{Ends}
use Rattle.segment_file.specs.declared.part.Part.{Part}
use Rattle.segment_file.specs.declared.section.Section.{Section}
use Rattle.segment_file.specs.declared.trees.TreeNodes.{TreeNodes}
use Rattle.segment_file.specs.Bounds.{AreBounds, bounds_of, bounded}
use Rattle.segment_file.specs.Front.{Extent, Front, bounds_end, extents_of, file_end, front_size, head_end}
use Rattle.segment_file.specs.Parts.{is_same, sections_of}
use Rattle.segment_file.specs.Rules.{HasFront, KeepsAll, heads_in}
use Rattle.segment_file.specs.Reading.{trees_said}

-- a head: how many rows there are, where the sections are, the bounds of the columns where there
-- are rows, and the dictionaries and the nodes of trees that were loaded
pub record Seen : Type 0 where
  pub rows : ℕ
  pub sections : List Section
  pub bounds : List Ends
  pub dictionaries : List (Option Distinct)
  pub trees : List (Option TreeNodes)

-- a section as a part of its file
abbrev pub placed : List ℕ → Extent → Section
placed file extent = record {
  part = extent.part;
  place = record {
    file = file;
    offset = extent.offset;
    length = extent.size;
  };
}

-- each of these sections is a part of this file
abbrev pub AreIn : List ℕ → List Section → Type 0
AreIn file sections = All (λ s. s.place.file ≡ file) sections

-- the dictionary of a column was loaded
abbrev pub IsLoaded : Seen → ℕ → Type 0
IsLoaded head column = (d : Distinct) × (slice_get head.dictionaries column ≡ Some (Some d))

-- the nodes of a tree were loaded
abbrev pub AreNodesLoaded : Seen → ℕ → Type 0
AreNodesLoaded head t = (tree : TreeNodes) × (slice_get head.trees t ≡ Some (Some tree))

-- no dictionary and no nodes of a tree are loaded
pub record IsBare (head : Seen) : Type 0 where
  pub none : (column : ℕ) → ¬ IsLoaded head column
  pub no_nodes : (tree : ℕ) → ¬ AreNodesLoaded head tree

-- where a section is, if there is such a one
abbrev pub place_in : List Section → Part → Option Place
place_in sections part = option_map (λ s. s.place) (find (λ s. is_same s.part part) sections)

-- the bytes of a place in the told files; those of none are none
abbrev pub bytes_in : Files → Option Place → List ℕ
bytes_in files None = []
bytes_in files (Some place) = section files place

-- the rows, sections and bounds of a head are those that the bytes of the file say
pub record IsOpened (table : Table) (name file bytes : List ℕ) (head : Seen) : Type 0 where
  pub front : Front
  pub has : HasFront table name bytes front
  pub rows_are : head.rows ≡ front.rows
  pub sections_are : head.sections ≡ map (placed file) (extents_of table name front)
  pub bounds_are : AreBounds (bounded front.rows table.schema.fields)
      (slice_index_or (heads_in table name front bytes) 0 []) head.bounds

-- the head is that of the bytes of the file, of which all rules hold, with all dictionaries and
-- nodes
pub record IsHead (table : Table) (name file bytes : List ℕ) (head : Seen) : Type 0 where
  pub front : Front
  pub dictionaries : List Distinct
  pub keeps : KeepsAll table name bytes front dictionaries
  pub rows_are : head.rows ≡ front.rows
  pub sections_are : head.sections ≡ map (placed file) (extents_of table name front)
  pub dictionaries_are : head.dictionaries ≡ map Some dictionaries
  pub bounds_are : head.bounds ≡ bounds_of dictionaries
  pub trees_are : head.trees ≡ map Some (trees_said table (heads_in table name front bytes))

-- ---- a head that is opened in steps

-- the rows and sections are those of this front, and there is room for a dictionary a field and for
-- the nodes of each tree
pub record IsPlaced (table : Table) (name file : List ℕ) (front : Front) (head : Seen)
    : Type 0 where
  pub rows_are : head.rows ≡ front.rows
  pub sections_are : head.sections ≡ map (placed file) (extents_of table name front)
  pub slots : length head.dictionaries ≡ length table.schema.fields
  pub tree_slots : length head.trees ≡ length table.settings.trees

-- a head of some file of the table, whatever a device tells
pub record IsHeadOf (table : Table) (head : Seen) : Type 0 where
  pub name : List ℕ
  pub file : List ℕ
  pub front : Front
  pub at_most : front.rows ≤ most_rows (length table.schema.fields)
  pub each : length front.sizes ≡ length (sections_of table)
  pub small : file_end table name front < 2 ^ 64
  pub has : IsPlaced table name file front head

-- a dictionary, or the nodes of a tree, are not loaded, or they are those of the whole head
abbrev pub IsSlotOf : {A : Type 0} → Option A → Option A → Type 0
IsSlotOf whole None = Unit {0}
IsSlotOf whole (Some d) = whole ≡ Some d

-- a head has what the whole one has, but for dictionaries and nodes that are not loaded
pub record IsPartOf (whole head : Seen) : Type 0 where
  pub rows_same : head.rows ≡ whole.rows
  pub sections_same : head.sections ≡ whole.sections
  pub bounds_same : head.bounds ≡ whole.bounds
  pub slots : AllZip IsSlotOf whole.dictionaries head.dictionaries
  pub tree_slots : AllZip IsSlotOf whole.trees head.trees

-- where files are told: the whole head of which this is a part, if all rules hold of its file, has
-- P
abbrev pub OfWhole : Table → Option Files → Seen → (Seen → Type 0) → Type 0
OfWhole table held head P = IfSome held (λ files. (name file : List ℕ) (whole : Seen)
    → IsHead table name file (bytes_of (Some files) file) whole → IsPartOf whole head → P whole)

-- the dictionary of a column of the head has so many values
pub record HasCount (column count : ℕ) (head : Seen) : Type 0 where
  pub d : Distinct
  pub at : slice_get head.dictionaries column ≡ Some (Some d)
  pub many : count ≡ length d.values

-- the dictionaries of these columns have so many values
abbrev pub HaveCounts : List ℕ → List ℕ → Seen → Type 0
HaveCounts columns counts head = AllZip (λ column count. HasCount column count head) columns counts

-- a head before and after a dictionary of a column was loaded
pub record Loads (column : ℕ) (old new : Seen) : Type 0 where
  pub loaded : IsLoaded new column
  pub rows_same : new.rows ≡ old.rows
  pub sections_same : new.sections ≡ old.sections
  pub bounds_same : new.bounds ≡ old.bounds
  pub trees_same : new.trees ≡ old.trees
  pub others : (other : ℕ) → other ≢ column → slice_get new.dictionaries other
      ≡ slice_get old.dictionaries other

-- the head with this dictionary of a column
abbrev pub with_dictionary : ℕ → Distinct → Seen → Seen
with_dictionary column d head = record head {
  dictionaries = slice_set head.dictionaries column
      (Some d);
}

-- the section of the dictionary of a column: the one after the bounds and the dictionaries before
-- it
abbrev pub dictionary_section : Seen → ℕ → Option Section
dictionary_section head column = slice_get head.sections (column + 1)

-- the section of the nodes of a tree: the one after the bounds, the dictionaries and the nodes
-- before it
abbrev pub nodes_section : Table → Seen → ℕ → Option Section
nodes_section table head t = slice_get head.sections (length table.schema.fields + 1 + t)

-- so many values for each split dimension, and nodes that keep all rules for them
pub record AreKept (shape : TreeShape) (counts : List ℕ) (tree : TreeNodes) : Type 0 where
  pub each : length counts ≡ shape.dims
  pub keep : KeepAll shape counts tree.documents tree.nodes

-- the columns of the split dimensions of a tree
abbrev pub split_of : Table → ℕ → List ℕ
split_of table t = option_map_or (λ tree. tree.split) (slice_get table.settings.trees t) []

-- ---- what is read

-- reads up to this place are within what ends there; a file without a front has none past where its
-- front would end
abbrev pub IsWithin : (Table → List ℕ → Front → ℕ) → Table → List ℕ → List ℕ → ℕ → Type 0
IsWithin end table name bytes to = (to ≤ front_size table name)
    ⊎ ((front : Front) × HasFront table name bytes front × (to ≤ end table name front))

-- the told log grew by reads of the file that go back to back from its start, none of them past
-- what ends there
abbrev pub LogsWithin : (Table → List ℕ → Front → ℕ) → Table → List ℕ → List ℕ → Option Files
    → Option (List Entry) → Option (List Entry) → Type 0
LogsWithin end table name file held old new = (to : ℕ) × LogsThrough file 0 to old new
    × IfSome held (λ files. IsWithin end table name (bytes_of (Some files) file) to)

-- none of them past the head
abbrev pub LogsHead : Table → List ℕ → List ℕ → Option Files → Option (List Entry)
    → Option (List Entry) → Type 0
LogsHead = LogsWithin head_end

-- none of them past the bounds
abbrev pub LogsOpened : Table → List ℕ → List ℕ → Option Files → Option (List Entry)
    → Option (List Entry) → Type 0
LogsOpened = LogsWithin bounds_end

-- the told log grew by reads of the first four bytes of a column's dictionary, where it is not
-- loaded
pub record LogsCount (head : Seen) (column : ℕ) (old new : Option (List Entry)) : Type 0 where
  pub unchanged : IsLoaded head column → new ≡ old
  pub first : IfSome (dictionary_section head column) (λ s. LogsUpTo s.place.file s.place.offset
      (s.place.offset + 4) old new)

-- it grew by those of these columns, one after the other
abbrev pub LogsCounts : Seen → List ℕ → Option (List Entry) → Option (List Entry) → Type 0
LogsCounts head [] old new = new ≡ old
LogsCounts head (column ∷ columns) old new = (between : Option (List Entry))
    × LogsCount head column old between × LogsCounts head columns between new

-- it grew by those of the split dimensions of a tree, and then by reads of its nodes
pub record LogsTree (table : Table) (head : Seen) (t : ℕ) (old new : Option (List Entry))
    : Type 0 where
  pub between : Option (List Entry)
  pub counts : LogsCounts head (split_of table t) old between
  pub nodes : IfSome (nodes_section table head t) (λ s. LogsUpTo s.place.file s.place.offset
      (s.place.offset + s.place.length) between new)
