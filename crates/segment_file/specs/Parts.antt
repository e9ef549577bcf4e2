-- The sections of a segment's file, and which of them a table's segments have.
use Rattle.std.specs.Prelude.{ℕ, ◌+◌, Bool, true, false, ◌==◌, ◌&&◌, List, [], ◌∷◌, ◌++◌, map, length, option_to_list}
use Rattle.std.specs.List.{range_with_len}
use Rattle.table_schema.specs.declared.table.Table.{Table}
use Rattle.segment_file.specs.declared.part.Part.{Part}
use Rattle.segment_file.specs.declared.part.Part.TheVariants as parts

-- the kind of a section, as the directory spells it; what is no section has 0
abbrev pub kind_of : Part → ℕ
kind_of parts.Table = 0
kind_of parts.Head = 0
kind_of parts.Bounds = 1
kind_of (parts.Dictionary column) = 2
kind_of (parts.Nodes tree) = 3
kind_of (parts.Forward column) = 4
kind_of (parts.Sorted column) = 5
kind_of (parts.Inverted column) = 6
kind_of (parts.Range column) = 7
kind_of (parts.Star tree) = 8

-- the number of the field or of the tree that a section belongs to
abbrev pub owner_of : Part → ℕ
owner_of parts.Table = 0
owner_of parts.Head = 0
owner_of parts.Bounds = 0
owner_of (parts.Dictionary column) = column
owner_of (parts.Nodes tree) = tree
owner_of (parts.Forward column) = column
owner_of (parts.Sorted column) = column
owner_of (parts.Inverted column) = column
owner_of (parts.Range column) = column
owner_of (parts.Star tree) = tree

-- whether two sections are one
abbrev pub is_same : Part → Part → Bool
is_same a b = kind_of a == kind_of b && owner_of a == owner_of b

-- the numbers of the fields
abbrev pub columns_of : Table → List ℕ
columns_of table = range_with_len 0 (length table.schema.fields)

-- the places that are marked, where the first has that number
abbrev pub marked_from : ℕ → List Bool → List ℕ
marked_from at [] = []
marked_from at (true ∷ marks) = at ∷ marked_from (at + 1) marks
marked_from at (false ∷ marks) = marked_from (at + 1) marks

-- the places that are marked
abbrev pub marked : List Bool → List ℕ
marked marks = marked_from 0 marks

-- the numbers of the trees
abbrev pub trees_of : Table → List ℕ
trees_of table = range_with_len 0 (length table.settings.trees)

-- the sections of the head: the bounds, each field's dictionary, and each tree's nodes
abbrev pub head_sections : Table → List Part
head_sections table = parts.Bounds ∷ (map parts.Dictionary (columns_of table)
    ++ map parts.Nodes (trees_of table))

-- the sections of the rows: each field's forward index, and the other indexes that the settings
-- name
abbrev pub raw_sections : Table → List Part
raw_sections table =
    map parts.Forward (columns_of table)
    ++ (map parts.Sorted (option_to_list table.settings.sorted)
    ++ (map parts.Inverted (marked table.settings.inverted)
    ++ map parts.Range (marked table.settings.ranged)))

-- the sections after those of the head: those of the rows, and each tree's documents
abbrev pub tail_sections : Table → List Part
tail_sections table = raw_sections table ++ map parts.Star (trees_of table)

-- the sections of a table's segments, in the order of the file: by kind, and then by owner
abbrev pub sections_of : Table → List Part
sections_of table = head_sections table ++ tail_sections table
