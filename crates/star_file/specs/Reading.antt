-- The documents that bytes spell, and the documents of a section of a file.
use Rattle.std.specs.Prelude.{◌≡◌, ◌↔◌, ℕ, zero, suc, ◌+◌, ◌-◌, ◌*◌, ◌^◌, ◌<◌, ◌≤◌, ◌⊎◌, List, [], ◌∷◌}
use Rattle.std.specs.Prelude.{◌++◌}
use Rattle.std.specs.Prelude.{length, take, drop, Option, Some, IfSome, Result, IsErrOf}
use Rattle.outside.specs.Files.{Files, bytes_at, bytes_of}
use Rattle.outside.specs.declared.place.Place.{Place}
use Rattle.outside.specs.declared.shelf.ShelfFault.{ShelfFault}
use Rattle.outside.specs.declared.shelf.ShelfFault.TheVariants as shelf
use Rattle.agg_laws.specs.declared.tree_shape.TreeShape.{TreeShape}
use Rattle.agg_laws.specs.Rows.{kinds_of, RowStored}
use Rattle.agg_laws.specs.Tree.{star}
use Rattle.state_columns.specs.Docs.{Doc, HaveShape, AreStored, Docs}
use Rattle.star_file.specs.Bytes.{words, state_bytes}
use Rattle.star_file.specs.Rules.{widths}
use Rattle.star_file.specs.declared.docs_fault.DocsFault.{DocsFault}
use Rattle.star_file.specs.declared.docs_fault.DocsFault.TheVariants.{BadDocs, ReadFault}

-- how many bytes a document takes
abbrev pub doc_width : TreeShape → ℕ
doc_width shape = 4 * shape.dims + widths shape.kinds

-- the number of four bytes is an id of a dimension of so many, or the star
abbrev pub IsId : ℕ → ℕ → Type 0
IsId count id = (id < 2 ^ 32) × ((id ≡ star) ⊎ (id < count))

-- each number is an id of its dimension
abbrev pub AreIds : List ℕ → List ℕ → Type 0
AreIds [] [] = Unit {0}
AreIds [] (x ∷ xs) = ⊥
AreIds (n ∷ ns) [] = ⊥
AreIds (n ∷ ns) (x ∷ xs) = IsId n x × AreIds ns xs

-- each document has such ids
abbrev pub DocsHaveIds : List ℕ → List Doc → Type 0
DocsHaveIds counts [] = Unit {0}
DocsHaveIds counts (e ∷ es) = AreIds counts e.0 × DocsHaveIds counts es

-- these bytes are those of a document: ids of the dimensions, and a stored state of each kind
pub record SpellsDoc (shape : TreeShape) (counts bytes : List ℕ) (e : Doc) : Type 0 where
  pub ids_are : AreIds counts e.0
  pub kinds_are : kinds_of e.1 ≡ shape.kinds
  pub stored : RowStored e.1
  pub bytes_are : bytes ≡ words e.0 ++ state_bytes e.1

-- the first bytes are those of so many documents
abbrev pub SpellDocs : TreeShape → List ℕ → ℕ → List ℕ → List Doc → Type 0
SpellDocs shape counts zero bytes [] = Unit {0}
SpellDocs shape counts zero bytes (e ∷ es) = ⊥
SpellDocs shape counts (suc n) bytes [] = ⊥
SpellDocs shape counts (suc n) bytes (e ∷ es) =
    SpellsDoc shape counts (take (doc_width shape) bytes) e
    × SpellDocs shape counts n (drop (doc_width shape) bytes) es

-- the bytes of a section: those of its file from the offset on, up to the length, as many as there
-- are. A file that is not there has none
abbrev pub section : Files → Place → List ℕ
section files place = bytes_at files place.file place.offset place.length

-- a section has these documents from one number up to another
pub record HasDocuments (shape : TreeShape) (counts : List ℕ) (from to : ℕ) (bytes : List ℕ)
    (docs : List Doc) : Type 0 where
  pub reach : from < to → to * doc_width shape ≤ length bytes
  pub are : SpellDocs shape counts (to - from) (drop (from * doc_width shape) bytes) docs

-- these are the bytes of a told file from one offset to another, which it reaches
abbrev pub IsPart : Option Files → List ℕ → ℕ → ℕ → List ℕ → Type 0
IsPart held name from to bytes =
    IfSome held (λ files. (to ≤ length (bytes_of (Some files) name))
    × (bytes ≡ bytes_at files name from (to - from)))

-- what the fault of a shelf is for a part of a file: one that is missing has no bytes
pub record IsDocsFault (fault : ShelfFault) (own : DocsFault) : Type 0 where
  pub missing : (own ≡ BadDocs) ↔ (fault ≡ shelf.Missing)
  pub failed : (own ≡ ReadFault) ↔ (fault ≡ shelf.Failed)

-- documents of a shape can be read, where each dimension has so many ids
pub record AreReadable (shape : TreeShape) (counts : List ℕ) : Type 0 where
  pub counts_are : length counts ≡ shape.dims
  pub at_most : length shape.kinds ≤ 16

-- bytes are refused only where they are bad, and nothing is read for them
pub record RefusesBytes {A : Type 0} (result : Result A DocsFault) (Bad : Type 0) : Type 0 where
  pub bad : IsErrOf result BadDocs → Bad
  pub read : IsErrOf result ReadFault → ⊥

-- a range of documents of a shape can be read
pub record IsReadableRange (shape : TreeShape) (counts : List ℕ) (from to : ℕ) : Type 0 where
  pub order : from ≤ to
  pub dims : 1 ≤ shape.dims
  pub readable : AreReadable shape counts

-- a table has a document with this number, and its documents can be written
pub record IsWritable (at : ℕ) (table : Docs) : Type 0 where
  pub there : at < length table.docs
  pub few_kinds : length table.kinds ≤ 16
  pub shape : HaveShape table.dims table.kinds table.docs
  pub stored : AreStored table.docs
