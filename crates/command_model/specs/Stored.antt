-- What a store's published files say where they are read: the table, its segments with their rows,
-- and the first that is refused.
use Rattle.std.specs.Prelude.{◌≡◌, ◌⊎◌, ℕ, ◌+◌, true, List, [], ◌∷◌, ◌++◌, map, length, codes, slice_get, Option, Some, None}
use Rattle.std.specs.Fmt.{decimal}
use Rattle.std.specs.FinMap as tree
use Rattle.std.specs.List.{AllZip}
use Rattle.outside.specs.Files.{Files, Lacks, OfFile, bytes_of}
use Rattle.table_schema.specs.declared.field.Field.{Field}
use Rattle.table_schema.specs.declared.table.Table.{Table}
use Rattle.segment_file.specs.Front.{Front}
use Rattle.segment_file.specs.Rules.{KeepsRules, HasFront}
use Rattle.segment_file.specs.Names.{file_of}
use Rattle.segment_file.specs.declared.part.Part.{Part}
use Rattle.segment_file.specs.declared.part.Part.TheVariants as parts
use Rattle.segment_head.specs.Calls.{FailsOpening}
use Rattle.table_store.specs.Accepted.{IsNoTableFile, IsTableFile}
use Rattle.table_store.specs.Segments.{AreFirstNames, has_segment}
use Rattle.table_store.specs.State.{Segment, Segments}
use Rattle.table_store.specs.TableFile.{table_name}
use Rattle.command_words.specs.declared.note.Note.{Note}
use Rattle.command_words.specs.declared.note.Note.TheVariants as note

-- ---- parts as note lines print them

-- the name of a field, if there is one
abbrev pub field_name : Option Field → List ℕ
field_name None = []
field_name (Some field) = field.name

-- a part of a stored file; a tree counts from 1
abbrev pub part_text : List Field → Part → List ℕ
part_text fields parts.Table = codes "table"
part_text fields parts.Head = codes "head"
part_text fields parts.Bounds = codes "bounds"
part_text fields (parts.Dictionary column) = codes "dictionary "
    ++ field_name (slice_get fields column)
part_text fields (parts.Nodes tree) = codes "nodes " ++ decimal (tree + 1)
part_text fields (parts.Forward column) = codes "forward " ++ field_name (slice_get fields column)
part_text fields (parts.Sorted column) = codes "sorted " ++ field_name (slice_get fields column)
part_text fields (parts.Inverted column) = codes "inverted " ++ field_name (slice_get fields column)
part_text fields (parts.Range column) = codes "range " ++ field_name (slice_get fields column)
part_text fields (parts.Star tree) = codes "star " ++ decimal (tree + 1)

-- ---- the table

-- the file of this table is published
abbrev pub HasTableFile : Files → Table → Type 0
HasTableFile files table = OfFile (Some files) table_name (λ bytes. IsTableFile bytes table)

-- a file is published as the table's that is none
pub record IsWrongTable (files : Files) (name part : List ℕ) : Type 0 where
  pub name_is : name ≡ table_name
  pub part_is : part ≡ codes "table"
  pub wrong : OfFile (Some files) table_name IsNoTableFile

-- why the table of a store is refused
abbrev pub TableRefuses : Files → Note → Type 0
TableRefuses files note.NoTable = Lacks (Some files) table_name
TableRefuses files (note.NotASegment name part) = IsWrongTable files name part
TableRefuses files other = ⊥

-- ---- its segments

-- of the file of a segment of the table some rule of a head fails: the part is the first that is
-- not there, of the front and the bounds
pub record IsWrongSegment (files : Files) (name part : List ℕ) : Type 0 where
  pub table : Table
  pub table_is : HasTableFile files table
  pub there : has_segment files name ≡ true
  pub breaks : ¬ KeepsRules table name (bytes_of (Some files) (file_of name))
  pub wrong : Part
  pub first : FailsOpening table name (bytes_of (Some files) (file_of name)) wrong
  pub part_is : part ≡ part_text table.schema.fields wrong

-- why the segments of a store are refused
abbrev pub SegmentsRefuse : Files → Note → Type 0
SegmentsRefuse files note.NoTable = Lacks (Some files) table_name
SegmentsRefuse files (note.NotASegment name part) = IsWrongTable files name part
    ⊎ IsWrongSegment files name part
SegmentsRefuse files other = ⊥

-- the front of the file of a segment says so many rows
pub record HasRows (table : Table) (files : Files) (name : List ℕ) (rows : ℕ) : Type 0 where
  pub front : Front
  pub front_is : HasFront table name (bytes_of (Some files) (file_of name)) front
  pub rows_are : rows ≡ front.rows

-- a line for each of these segments: its name, and how many rows it has
abbrev pub segment_lines : List (List ℕ) → List ℕ → List ℕ
segment_lines [] counts = []
segment_lines (name ∷ names) [] = []
segment_lines (name ∷ names) (rows ∷ counts) = name ++ codes "," ++ decimal rows ++ codes "\n"
    ++ segment_lines names counts

-- what is printed of these segments
abbrev pub list_text : List (List ℕ) → List ℕ → List ℕ
list_text names counts = codes "segment,rows\n" ++ segment_lines names counts

-- the first segments of a store by their names, and how many rows each has by its file
pub record IsListed (files : Files) (text : List ℕ) : Type 0 where
  pub table : Table
  pub table_is : HasTableFile files table
  pub names : List (List ℕ)
  pub names_are : AreFirstNames files names
  pub counts : List ℕ
  pub rows : AllZip (HasRows table files) names counts
  pub text_is : text ≡ list_text names counts

-- how many rows a segment has
abbrev pub count_in : Option Segment → ℕ
count_in None = 0
count_in (Some segment) = length segment.rows

-- the segments of a state, as they are printed
abbrev pub listed : Segments → List ℕ
listed segments = list_text (tree.keys segments) (map (λ name. count_in (tree.get segments name))
    (tree.keys segments))
