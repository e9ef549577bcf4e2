-- What the reading of a front finds, what sections of nodes say, and which sizes the sections after
-- a head have.
use Rattle.std.specs.Prelude.{◌≡◌, ◌<◌, ℕ, List, [], ◌∷◌, take, drop, map, length, slice_index_or, Option, Some, IfSome}
use Rattle.std.specs.Int.{w64, from_be_bytes}
use Rattle.std.specs.List.{All}
use Rattle.outside.specs.Files.{Files, bytes_of}
use Rattle.table_schema.specs.declared.table.Table.{Table}
use Rattle.value_ids.specs.Dictionary.{Distinct}
use Rattle.segment_file.specs.declared.part.Part.{Part}
use Rattle.segment_file.specs.declared.part.Part.TheVariants as parts
use Rattle.segment_file.specs.declared.section.Section.{Section}
use Rattle.segment_file.specs.declared.trees.TreeNodes.{TreeNodes}
use Rattle.segment_file.specs.Front.{Front, front_size, head_end}
use Rattle.segment_file.specs.Parts.{columns_of, trees_of}
use Rattle.segment_file.specs.Rules.{AreSpelled, HasFront, IsFront, size_in, nodes_in}
use Rattle.star_file.specs.Rules as nodes
use Rattle.star_file.specs.Rules.{number_at}

-- what a section of nodes says
abbrev pub nodes_said : List ℕ → TreeNodes
nodes_said bytes = record {
  documents = number_at 0 bytes;
  nodes = nodes.nodes_in
      (nodes.count_in bytes) (drop 4 bytes);
}

-- what the sections of the head say of each tree
abbrev pub trees_said : Table → List (List ℕ) → List TreeNodes
trees_said table heads = map (λ t. nodes_said (nodes_in table heads t)) (trees_of table)

-- how long each of these sections is, as the last eight bytes of its entry say
abbrev pub sizes_from : List Part → List ℕ → List ℕ
sizes_from [] bytes = []
sizes_from (part ∷ parts) bytes = from_be_bytes w64 (take 8 (drop 11 bytes))
    ∷ sizes_from parts (drop 19 bytes)

-- the bytes are the front of a file, and where files are told it is the front of this one
pub record IsFrontOf (table : Table) (name file : List ℕ) (held : Option Files) (bytes : List ℕ)
    (front : Front) : Type 0 where
  pub size : ℕ
  pub front_is : IsFront table name bytes size front
  pub told : IfSome held (λ files. (size ≡ length (bytes_of (Some files) file))
      × (bytes ≡ take (front_size table name) (bytes_of (Some files) file)))

-- the bytes are those up to the end of the head of some file with this front
pub record IsHeadCut (table : Table) (name : List ℕ) (front : Front) (cut : List ℕ) : Type 0 where
  pub whole : List ℕ
  pub front_is : HasFront table name whole front
  pub cut_is : cut ≡ take (head_end table name front) whole

-- ---- the sections of a head

-- how many values the dictionary of a field has
abbrev pub count_at : List Distinct → ℕ → ℕ
count_at dictionaries column = length (slice_index_or (map (λ d. d.values) dictionaries) column [])

-- the dictionaries and the nodes are those in the sections of the head
pub record AreRead (table : Table) (rows : ℕ) (heads : List (List ℕ)) (dictionaries : List Distinct)
    (trees : List TreeNodes) : Type 0 where
  pub spelled : AreSpelled table rows heads (columns_of table) dictionaries
  pub said : trees ≡ trees_said table heads

-- a section after the head: one of the rows of a field, or the documents of a tree
abbrev pub IsTailPart : Table → Part → Type 0
IsTailPart table (parts.Forward column) = column < length table.schema.fields
IsTailPart table (parts.Sorted column) = column < length table.schema.fields
IsTailPart table (parts.Inverted column) = column < length table.schema.fields
IsTailPart table (parts.Range column) = column < length table.schema.fields
IsTailPart table (parts.Star t) = t < length table.settings.trees
IsTailPart table other = ⊥

-- a section is as long as the rows, their values and the documents want
abbrev pub FitsSize : Table → ℕ → List (List ℕ) → Section → Type 0
FitsSize table rows heads s = s.place.length ≡ size_in table rows heads s.part

-- the section of this part is the first that is not
pub record SizeFails (table : Table) (rows : ℕ) (heads : List (List ℕ)) (sections : List Section)
    (part : Part) : Type 0 where
  pub at : ℕ
  pub within : at < length sections
  pub failing : Section
  pub is_at : failing ≡ slice_index_or sections at failing
  pub sized : All (FitsSize table rows heads) (take at sections)
  pub other : ¬ FitsSize table rows heads failing
  pub is_of : failing.part ≡ part
