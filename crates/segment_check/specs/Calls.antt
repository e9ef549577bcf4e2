-- What the calls that look at a whole file answer, are refused by and read.
use Rattle.std.specs.Prelude.{◌≡◌, ℕ, List, length, Option, Some, Result, IfErr, IfOk, IfSome, IsErrOf}
use Rattle.outside.specs.Files.{Files, bytes_of}
use Rattle.outside.specs.Seen.{OnlyReads, Seen}
use Rattle.values.specs.declared.value.Value.{Value}
use Rattle.table_schema.specs.ValidTable.{AreRows}
use Rattle.table_schema.specs.declared.table.Table.{Table}
use Rattle.segment_file.specs.declared.fault.HeadFault.{HeadFault}
use Rattle.segment_file.specs.declared.fault.HeadFault.TheVariants.{NotASegment, ReadFault}
use Rattle.segment_file.specs.declared.part.Part.{Part}
use Rattle.segment_build.specs.FileReads.{LogsAtMost, LogsFile}
use Rattle.segment_build.specs.Growing.{TreesFit}
use Rattle.segment_check.specs.Checked.{IsImageOf, IsNoImage, Spells, SpellsNone}

-- where files are told, this one has bytes with P; one that is missing has none
abbrev pub OfBytes : Option Files → List ℕ → (List ℕ → Type 0) → Type 0
OfBytes held file P = IfSome held (λ files. P (bytes_of (Some files) file))

-- a file was looked at whole, no byte of it more than twice, and no other: it is the image of the
-- rows that are answered, of which no star-tree is too large, or of none
pub record ChecksImage {A : Type 0} (rows_in : A → List (List Value)) (table : Table)
    (name file : List ℕ) (old new : Seen) (result : Result A HeadFault) : Type 0 where
  pub rows : IfOk result (λ a. AreRows table.schema.fields (rows_in a))
  pub fits : IfOk result (λ a. TreesFit table (rows_in a))
  pub image : IfOk result (λ a. OfBytes old.held file (λ bytes.
      IsImageOf table name bytes (rows_in a)))
  pub refused : IfErr result (λ fault. (p : Part) → fault ≡ NotASegment p
      → OfBytes old.held file (λ bytes. IsNoImage table name bytes p))
  pub only_reads : OnlyReads (IsErrOf result ReadFault) old new
  pub log : LogsFile file old.log new.log
  pub twice : LogsAtMost 2 file old.log new.log

-- the same, where it is answered how many rows there are
pub record CountsImage (table : Table) (name file : List ℕ) (old new : Seen)
    (result : Result ℕ HeadFault) : Type 0 where
  pub rows : List (List Value)
  pub checks : ChecksImage (λ n. rows) table name file old new result
  pub count : IfOk result (λ n. n ≡ length rows)

-- the head and the ids of a file were looked at, no byte of it twice, and no other file: it spells
-- rows of which the answer is, or none
pub record SpellsFile {A : Type 0} (IsOf : A → List (List Value) → Type 0) (table : Table)
    (name file : List ℕ) (old new : Seen) (result : Result A HeadFault) : Type 0 where
  pub spells : IfOk result (λ a. OfBytes old.held file (λ bytes.
      (rows : List (List Value)) × Spells table name bytes rows × IsOf a rows))
  pub refused : IfErr result (λ fault. (p : Part) → fault ≡ NotASegment p
      → OfBytes old.held file (λ bytes. SpellsNone table name bytes p))
  pub only_reads : OnlyReads (IsErrOf result ReadFault) old new
  pub log : LogsFile file old.log new.log
  pub once : LogsAtMost 1 file old.log new.log
