-- Whether a file is the image of some rows, and which part of it is wrong where it is none.
use Rattle.std.specs.Prelude.{◌≡◌, ◌⊎◌, ◌<◌, ◌+◌, ◌&&◌, ℕ, Bool, nat_le, nat_lt, List, length}
use Rattle.std.specs.List.{All, find, range_with_len}
use Rattle.std.specs.Option.{option_map_or}
use Rattle.values.specs.declared.value.Value.{Value}
use Rattle.value_ids.specs.Dictionary.{Distinct}
use Rattle.table_schema.specs.declared.table.Table.{Table}
use Rattle.segment_file.specs.declared.part.Part.{Part}
use Rattle.segment_file.specs.declared.part.Part.TheVariants as parts
use Rattle.segment_file.specs.Front.{Extent, Front, extents_of}
use Rattle.segment_file.specs.Image.{CanHold, image}
use Rattle.segment_file.specs.Ordered.{ordered}
use Rattle.segment_file.specs.Rules.{FailsAt, KeepsAll}
use Rattle.segment_build.specs.Compared.{DifferAt}
use Rattle.segment_build.specs.Growing.{IsTooLarge, TreesFit}
use Rattle.segment_file.specs.Spelled.{HasIds, SpellsRows}

-- the bytes are the image of these rows, which a segment of the table may have, and which are in
-- its order
pub record IsImageOf (table : Table) (name bytes : List ℕ) (rows : List (List Value)) : Type 0 where
  pub can : CanHold table rows
  pub in_order : ordered table.settings.sorted rows ≡ rows
  pub image_is : bytes ≡ image 1 table name rows

-- all rules of a head hold, and this is the first column whose forward index has no such ids
pub record FailsIds (table : Table) (name bytes : List ℕ) (column : ℕ) : Type 0 where
  pub front : Front
  pub dictionaries : List Distinct
  pub keeps : KeepsAll table name bytes front dictionaries
  pub field : column < length table.schema.fields
  pub before : All (HasIds table name bytes front dictionaries) (range_with_len 0 column)
  pub none : ¬ HasIds table name bytes front dictionaries column

-- rows are spelled, and this is the first star-tree of theirs that takes more bytes than one may
pub record FailsTree (table : Table) (name bytes : List ℕ) (t : ℕ) : Type 0 where
  pub front : Front
  pub rows : List (List Value)
  pub spells : SpellsRows table name bytes front rows
  pub too_large : IsTooLarge table rows t

-- whether a byte is in a section
abbrev pub has_byte : ℕ → Extent → Bool
has_byte at extent = nat_le extent.offset at && nat_lt at (extent.offset + extent.size)

-- the section that a byte is in, and the head for one before the sections
abbrev pub part_at : List Extent → ℕ → Part
part_at extents at = option_map_or (λ extent. extent.part) (find (has_byte at) extents) parts.Head

-- rows are spelled, and a byte of this part is the first that is not that of their image
pub record FailsBytes (table : Table) (name bytes : List ℕ) (part : Part) : Type 0 where
  pub front : Front
  pub rows : List (List Value)
  pub spells : SpellsRows table name bytes front rows
  pub fits : TreesFit table rows
  pub at : ℕ
  pub differ : DifferAt (image 1 table name rows) bytes at
  pub part_is : part ≡ part_at (extents_of table name front) at

-- all rules of a head hold on the bytes, but they are not the image of the rows that they spell:
-- the part that is wrong
abbrev pub FailsImageAt : Table → List ℕ → List ℕ → Part → Type 0
FailsImageAt table name bytes part =
    ((column : ℕ) × (part ≡ parts.Forward column) × FailsIds table name bytes column)
    ⊎ (((t : ℕ) × (part ≡ parts.Nodes t) × FailsTree table name bytes t)
    ⊎ FailsBytes table name bytes part)

-- the bytes spell these rows: all rules of a head hold, and the ids of each row are those of values
abbrev pub Spells : Table → List ℕ → List ℕ → List (List Value) → Type 0
Spells table name bytes rows = (front : Front) × SpellsRows table name bytes front rows

-- the bytes spell no rows: a rule of a head fails first for this part, or it is the first forward
-- index without such ids
abbrev pub SpellsNone : Table → List ℕ → List ℕ → Part → Type 0
SpellsNone table name bytes part = FailsAt table name bytes part
    ⊎ ((column : ℕ) × (part ≡ parts.Forward column) × FailsIds table name bytes column)

-- the bytes are the image of no rows: this part is the first that is wrong
abbrev pub IsNoImage : Table → List ℕ → List ℕ → Part → Type 0
IsNoImage table name bytes part = FailsAt table name bytes part
    ⊎ FailsImageAt table name bytes part
