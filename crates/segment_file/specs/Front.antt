-- The front of a segment's file: the header, and the directory of the sections. Numbers have the
-- most significant byte first.
use Rattle.std.specs.Prelude.{ℕ, ◌+◌, ◌*◌, List, [], ◌∷◌, ◌++◌, take, length, sum, codes}
use Rattle.std.specs.Int.{w16, w64, to_be_bytes}
use Rattle.std.specs.List.{flat_map}
use Rattle.dictionary.specs.Spelling.{counted}
use Rattle.table_schema.specs.declared.table.Table.{Table}
use Rattle.segment_file.specs.declared.part.Part.{Part}
use Rattle.segment_file.specs.Parts.{head_sections, kind_of, owner_of, sections_of}

-- what the front of a file says: its format, how many rows there are, and how long each section is
pub record Front : Type 0 where
  pub format : ℕ
  pub rows : ℕ
  pub sizes : List ℕ

-- where a section begins in its file, and how many bytes it has
pub record Extent : Type 0 where
  pub part : Part
  pub offset : ℕ
  pub size : ℕ

-- two bytes
unfoldable pub short : ℕ → List ℕ
short n = to_be_bytes w16 n

-- eight bytes
unfoldable pub long : ℕ → List ℕ
long n = to_be_bytes w64 n

-- ---- where the sections are

-- the header has 38 bytes and the name, and each section an entry of 19
abbrev pub front_size : Table → List ℕ → ℕ
front_size table name = 38 + length name + 19 * length (sections_of table)

-- sections of these sizes, one after the other without gaps
abbrev pub extents_from : ℕ → List Part → List ℕ → List Extent
extents_from offset [] sizes = []
extents_from offset (part ∷ parts) [] = []
extents_from offset (part ∷ parts) (size ∷ sizes) = record {
  part = part;
  offset = offset;
  size = size;
} ∷ extents_from (offset + size) parts sizes

-- where the sections of a file with this front are
abbrev pub extents_of : Table → List ℕ → Front → List Extent
extents_of table name front = extents_from (front_size table name) (sections_of table) front.sizes

-- where the head ends: after the last of its sections
abbrev pub head_end : Table → List ℕ → Front → ℕ
head_end table name front = front_size table name + sum (take
    (length (head_sections table)) front.sizes)

-- where the bounds end, which are the first section
abbrev pub bounds_end : Table → List ℕ → Front → ℕ
bounds_end table name front = front_size table name + sum (take 1 front.sizes)

-- where the file ends
abbrev pub file_end : Table → List ℕ → Front → ℕ
file_end table name front = front_size table name + sum front.sizes

-- ---- how the front is spelled

-- the kind and the owner of a section, where it begins and how long it is
abbrev pub extent_bytes : Extent → List ℕ
extent_bytes extent = (kind_of extent.part ∷ []) ++ (short (owner_of extent.part)
    ++ (long extent.offset ++ long extent.size))

-- the entries of the sections
abbrev pub directory : List Extent → List ℕ
directory extents = flat_map extent_bytes extents

-- what the file is, its format, rows and name
abbrev pub title_bytes : Front → List ℕ → List ℕ
title_bytes front name = codes "STARSEG1" ++ (counted front.format
    ++ (counted front.rows ++ (short (length name) ++ name)))

-- how many fields and sections there are, and where the head and the file end
abbrev pub counts_bytes : ℕ → ℕ → ℕ → ℕ → List ℕ
counts_bytes fields sections head file = short fields ++ (short sections
    ++ (long head ++ long file))

-- the header
abbrev pub header_bytes : Table → List ℕ → Front → List ℕ
header_bytes table name front =
    title_bytes front name ++ counts_bytes (length table.schema.fields) (length (sections_of table))
    (head_end table name front) (file_end table name front)

-- the header and the directory
abbrev pub front_bytes : Table → List ℕ → Front → List ℕ
front_bytes table name front = header_bytes table name front
    ++ directory (extents_of table name front)
