-- The rules of a head: what the bytes of a file have to be for its head to be read.
use Rattle.std.specs.Prelude.{◌≡◌, ◌≢◌, ◌≤◌, ◌<◌, ◌^◌, ◌↔◌, ℕ, ◌+◌, ◌*◌, List, [], ◌∷◌, ◌++◌, take, drop, map, length, slice_get, slice_index_or, Option, Some, None, IfSome}
use Rattle.std.specs.Int.{w32, from_be_bytes}
use Rattle.std.specs.List.{All, AllZip, range_with_len}
use Rattle.data_types.specs.declared.kind.FieldKind.{FieldKind}
use Rattle.agg_laws.specs.declared.tree_shape.TreeShape.{TreeShape}
use Rattle.table_schema.specs.declared.settings.TreeSetting.{TreeSetting}
use Rattle.table_schema.specs.declared.table.Table.{Table}
use Rattle.table_schema.specs.ValidTable.{most_rows}
use Rattle.value_ids.specs.Dictionary.{Distinct, IsDictionary}
use Rattle.dictionary.specs.Spelling.{spelling}
use Rattle.bit_column.specs.Column.{bytes_for, width_of}
use Rattle.bit_column.specs.Postings.{buckets_for}
use Rattle.star_file.specs.Reading.{doc_width}
use Rattle.star_file.specs.Rules.{KeepsSection, number_at}
use Rattle.segment_file.specs.declared.part.Part.{Part}
use Rattle.segment_file.specs.declared.part.Part.TheVariants as parts
use Rattle.segment_file.specs.Front.{Extent, Front, extents_of, file_end, front_bytes, front_size}
use Rattle.segment_file.specs.Bounds.{bounds_bytes, bounds_of}
use Rattle.segment_file.specs.Columns.{kind_at}
use Rattle.segment_file.specs.Parts.{columns_of, head_sections, owner_of, sections_of}

-- a format that is read: the first, so far
abbrev pub IsFormat : ℕ → Type 0
IsFormat format = format ≡ 1

-- the bytes are those of this front, in a file that is as long as it says
pub record IsFront (table : Table) (name bytes : List ℕ) (file_size : ℕ) (front : Front)
    : Type 0 where
  pub known : IsFormat front.format
  pub at_most : front.rows ≤ most_rows (length table.schema.fields)
  pub each : length front.sizes ≡ length (sections_of table)
  pub spelled : bytes ≡ front_bytes table name front
  pub whole : file_size ≡ file_end table name front
  pub small : file_size < 2 ^ 64

-- the file begins with this front, and is as long as it says
abbrev pub HasFront : Table → List ℕ → List ℕ → Front → Type 0
HasFront table name bytes front = IsFront table name (take (front_size table name) bytes)
    (length bytes) front

-- the bytes are those of this dictionary, which has some value where there are rows, and no more
-- values than rows
pub record IsSpelled (kind : FieldKind) (rows : ℕ) (bytes : List ℕ) (d : Distinct) : Type 0 where
  pub stands : IsDictionary d
  pub kind_is : d.kind ≡ kind
  pub spelled : bytes ≡ spelling d
  pub at_most : length d.values ≤ rows
  pub some : 0 < rows → 0 < length d.values

-- the bytes of a section
abbrev pub section_bytes : List ℕ → Extent → List ℕ
section_bytes bytes extent = take extent.size (drop extent.offset bytes)

-- the bytes of the sections of the head: the bounds, the dictionary of each field, and the nodes of
-- each tree
abbrev pub heads_in : Table → List ℕ → Front → List ℕ → List (List ℕ)
heads_in table name front bytes = map (section_bytes bytes) (take (length (head_sections table))
    (extents_of table name front))

-- the bytes of the dictionary of a field, among those of the head
abbrev pub dictionary_in : List (List ℕ) → ℕ → List ℕ
dictionary_in heads column = slice_index_or heads (column + 1) []

-- the bytes of the nodes of a tree, among those of the head
abbrev pub nodes_in : Table → List (List ℕ) → ℕ → List ℕ
nodes_in table heads tree = slice_index_or heads (length table.schema.fields + 1 + tree) []

-- fields have these dictionaries
abbrev pub AreSpelled : Table → ℕ → List (List ℕ) → List ℕ → List Distinct → Type 0
AreSpelled table rows heads columns dictionaries = AllZip (λ column d.
    IsSpelled (kind_at table column) rows (dictionary_in heads column) d) columns dictionaries

-- how many values a dictionary has, as its first four bytes say
abbrev pub count_in : List ℕ → ℕ
count_in bytes = from_be_bytes w32 (take 4 bytes)

-- how many values each split dimension of a tree has, where these are the sections of the head
abbrev pub split_counts : List (List ℕ) → TreeSetting → List ℕ
split_counts heads tree = map (λ column. count_in (dictionary_in heads column)) tree.split

-- the bytes are the nodes of a tree of this shape, of so many rows: they keep all rules, and there
-- are no documents exactly where there are no rows
pub record AreNodes (shape : TreeShape) (counts : List ℕ) (rows : ℕ) (bytes : List ℕ) : Type 0 where
  pub keep : KeepsSection shape counts bytes
  pub none : (number_at 0 bytes ≡ 0) ↔ (rows ≡ 0)

-- the nodes of a tree are in its section
abbrev pub HasNodes : Table → ℕ → List (List ℕ) → ℕ → Type 0
HasNodes table rows heads t = IfSome (slice_get table.settings.trees t)
    (λ tree. AreNodes tree.shape (split_counts heads tree) rows (nodes_in table heads t))

-- those of the first so many trees are
abbrev pub HaveNodes : Table → ℕ → List (List ℕ) → ℕ → Type 0
HaveNodes table rows heads count = All (HasNodes table rows heads) (range_with_len 0 count)

-- how long the section of a tree's documents is, where these are its nodes
abbrev pub star_size : List ℕ → Option TreeSetting → ℕ
star_size nodes None = 0
star_size nodes (Some tree) = number_at 0 nodes * doc_width tree.shape

-- how long a section of the rows is where there are so many rows, and so many values in its column
abbrev pub size_for : ℕ → ℕ → Part → ℕ
size_for rows count (parts.Forward column) = bytes_for (rows * width_of count)
size_for rows count (parts.Sorted column) = 8 * count
size_for rows count (parts.Inverted column) = 4 * (count + 1 + rows)
size_for rows count (parts.Range column) = 4 * (buckets_for count + 1 + rows)
size_for rows count other = 0

-- how long a section after the head is, where these are the sections of the head
abbrev pub size_in : Table → ℕ → List (List ℕ) → Part → ℕ
size_in table rows heads (parts.Star t) = star_size (nodes_in table heads t)
    (slice_get table.settings.trees t)
size_in table rows heads other = size_for rows (count_in (dictionary_in heads
    (owner_of other))) other

-- a section is as long as the rows, their values and the documents want, where these are the
-- sections of the head
abbrev pub IsSized : Table → ℕ → List (List ℕ) → Extent → Type 0
IsSized table rows heads extent = extent.size ≡ size_in table rows heads extent.part

-- the sections after those of the head
abbrev pub raw_extents : Table → List ℕ → Front → List Extent
raw_extents table name front = drop (length (head_sections table)) (extents_of table name front)

-- the dictionaries are these, and the bounds are theirs
pub record HasDictionaries (table : Table) (rows : ℕ) (heads : List (List ℕ))
    (dictionaries : List Distinct) : Type 0 where
  pub spelled : AreSpelled table rows heads (columns_of table) dictionaries
  pub bounds : slice_index_or heads 0 [] ≡ bounds_bytes (bounds_of dictionaries)

-- all rules of the head hold on the bytes of a file with this front and these dictionaries
pub record KeepsAll (table : Table) (name bytes : List ℕ) (front : Front)
    (dictionaries : List Distinct) : Type 0 where
  pub front_is : HasFront table name bytes front
  pub heads : HasDictionaries table front.rows (heads_in table name front bytes) dictionaries
  pub trees : HaveNodes table front.rows (heads_in table name front bytes)
      (length table.settings.trees)
  pub sized : All (IsSized table front.rows (heads_in table name front bytes))
      (raw_extents table name front)

-- the rules hold up to the dictionary of this field, which is none
pub record FailsDictionary (table : Table) (name bytes : List ℕ) (column : ℕ) : Type 0 where
  pub front : Front
  pub front_is : HasFront table name bytes front
  pub field : column < length table.schema.fields
  pub before : List Distinct
  pub spelled : AreSpelled table front.rows (heads_in table name front bytes)
      (range_with_len 0 column) before
  pub none : (d : Distinct) → ¬ IsSpelled (kind_at table column) front.rows
      (dictionary_in (heads_in table name front bytes) column) d

-- the rules hold up to the bounds, which are not those of the dictionaries
pub record FailsBounds (table : Table) (name bytes : List ℕ) : Type 0 where
  pub front : Front
  pub front_is : HasFront table name bytes front
  pub dictionaries : List Distinct
  pub spelled : AreSpelled table front.rows (heads_in table name front bytes)
      (columns_of table) dictionaries
  pub others : slice_index_or (heads_in table name front bytes) 0 []
      ≢ bounds_bytes (bounds_of dictionaries)

-- the rules hold up to the nodes of this tree, which are not in their section
pub record FailsNodes (table : Table) (name bytes : List ℕ) (t : ℕ) : Type 0 where
  pub front : Front
  pub front_is : HasFront table name bytes front
  pub dictionaries : List Distinct
  pub heads : HasDictionaries table front.rows (heads_in table name front bytes) dictionaries
  pub tree : t < length table.settings.trees
  pub before : HaveNodes table front.rows (heads_in table name front bytes) t
  pub none : ¬ HasNodes table front.rows (heads_in table name front bytes) t

-- the rules hold up to the section of this part after the head, which has another size
pub record FailsSize (table : Table) (name bytes : List ℕ) (part : Part) : Type 0 where
  pub front : Front
  pub front_is : HasFront table name bytes front
  pub dictionaries : List Distinct
  pub heads : HasDictionaries table front.rows (heads_in table name front bytes) dictionaries
  pub trees : HaveNodes table front.rows (heads_in table name front bytes)
      (length table.settings.trees)
  pub before : List Extent
  pub failing : Extent
  pub after : List Extent
  pub order : raw_extents table name front ≡ before ++ failing ∷ after
  pub sized : All (IsSized table front.rows (heads_in table name front bytes)) before
  pub other : ¬ IsSized table front.rows (heads_in table name front bytes) failing
  pub is_of : failing.part ≡ part

-- the part of the first rule of the head that fails on the bytes: the front, the dictionary of each
-- field, the bounds, the nodes of each tree, and then the size of each section after the head
abbrev pub FailsAt : Table → List ℕ → List ℕ → Part → Type 0
FailsAt table name bytes parts.Table = ⊥
FailsAt table name bytes parts.Head = (front : Front) → ¬ HasFront table name bytes front
FailsAt table name bytes (parts.Dictionary column) = FailsDictionary table name bytes column
FailsAt table name bytes parts.Bounds = FailsBounds table name bytes
FailsAt table name bytes (parts.Nodes t) = FailsNodes table name bytes t
FailsAt table name bytes other = FailsSize table name bytes other

-- all rules of a head hold on the bytes
abbrev pub KeepsRules : Table → List ℕ → List ℕ → Type 0
KeepsRules table name bytes = (front : Front) × (dictionaries : List Distinct)
    × KeepsAll table name bytes front dictionaries
