-- The columns of a file as ids (inside the crate alone).
use Rattle.std.specs.Prelude.{◌≡◌, ◌≤◌, ◌<◌, ℕ, Bool, true, false, List, get_or, length, slice_get, Option, Some, IfSome, Result, IfErr, IfOk, IsErrOf, Vec}
use Rattle.std.specs.Global.{Global}
use Rattle.std.specs.List.{Contains}
use Rattle.outside.specs.Files.{Files}
use Rattle.outside.specs.Seen as outside
use Rattle.outside.specs.Seen.{OnlyReads}
use Rattle.data_types.specs.declared.kind.FieldKind.{FieldKind}
use Rattle.value_ids.specs.Coding.{AreBelow, values_at}
use Rattle.value_ids.specs.Dictionary.{Distinct}
use Rattle.table_schema.specs.declared.table.Table.{Table}
use Rattle.segment_file.specs.Names.{IsSegmentOf}
use Rattle.segment_file.specs.declared.fault.HeadFault.{HeadFault}
use Rattle.segment_file.specs.declared.fault.HeadFault.TheVariants.{NotASegment, ReadFault}
use Rattle.segment_file.specs.declared.part.Part.{Part}
use Rattle.segment_file.specs.declared.part.Part.TheVariants as parts
use Rattle.segment_head.specs.Heads.{AreIn, Seen}
use Rattle.segment_build.specs.declared.coded.CodedColumn.{CodedColumn}
use Rattle.segment_build.specs.declared.coded.CodedColumns.{CodedColumns}
use Rattle.segment_build.specs.Coded.{AreCoded, IsCoding, columns_in, dictionary_of_ids, row_values}
use Rattle.segment_build.specs.FileReads.{LogsFile}
use Rattle.segment_check.specs.declared.head.FileHead.{FileHead}
use Rattle.segment_check.specs.Reading.{AreColumns, AreOfFields, FailsColumn, HasIdsOf, IsColumn, IsSomeHead, LogsColumns}

-- each id below a number is one of these
abbrev pub HaveAll : ℕ → List ℕ → Type 0
HaveAll count ids = (id : ℕ) → id < count → Contains ids id

-- from one place up to another all have a mark
abbrev pub AreMarked : List Bool → ℕ → ℕ → Type 0
AreMarked marks from to = (at : ℕ) → from ≤ at → at < to → get_or marks at false ≡ true

-- the values of a dictionary that rows with these ids have, and no others, with the rows' ids
pub record CodesRows (kind : FieldKind) (d : Distinct) (ids : List ℕ) (c : CodedColumn)
    : Type 0 where
  pub coding : IsCoding c
  pub kind_is : (dictionary_of_ids c).kind ≡ kind
  pub values : row_values c ≡ values_at d.values ids

-- the ids of a column's rows, each of one of its values, and where files are told, those in its
-- forward index
pub record AreIdsOf (held : Option Files) (head : Seen) (column : ℕ) (d : Distinct) (ids : List ℕ)
    : Type 0 where
  pub count : length ids ≡ head.rows
  pub below : AreBelow (length d.values) ids
  pub are : IsColumn held head column d (values_at d.values ids)

-- they were read, or its forward index has no such ids
pub record ReadsIds (head : Seen) (column : ℕ) (old new : outside.Seen)
    (result : Result (List ℕ) HeadFault) : Type 0 where
  pub ids : IfOk result (λ ids. (d : Distinct)
      → slice_get head.dictionaries column ≡ Some (Some d) → AreIdsOf old.held head column d ids)
  pub refused : IfErr result (λ fault. (p : Part) → fault ≡ NotASegment p
      → (p ≡ parts.Forward column) × ((d : Distinct)
      → slice_get head.dictionaries column ≡ Some (Some d)
      → IfSome old.held (λ files. ¬ HasIdsOf files head column (length d.values))))
  pub only_reads : OnlyReads (IsErrOf result ReadFault) old new

-- a column was read so
pub record ReadsCodes (head : Seen) (kind : FieldKind) (column : ℕ) (old new : outside.Seen)
    (result : Result CodedColumn HeadFault) : Type 0 where
  pub coding : IfOk result IsCoding
  pub kind_is : IfOk result (λ c. (dictionary_of_ids c).kind ≡ kind)
  pub column_is : IfOk result (λ c. (d : Distinct)
      → slice_get head.dictionaries column ≡ Some (Some d)
      → IsColumn old.held head column d (row_values c))
  pub refused : IfErr result (λ fault. (p : Part) → fault ≡ NotASegment p
      → (p ≡ parts.Forward column) × ((d : Distinct)
      → slice_get head.dictionaries column ≡ Some (Some d)
      → IfSome old.held (λ files. ¬ HasIdsOf files head column (length d.values))))
  pub only_reads : OnlyReads (IsErrOf result ReadFault) old new

-- the columns of a file with this head were read so, or the first that has not its ids
pub record ReadsAllCodes (table : Table) (head : Seen) (old new : outside.Seen)
    (result : Result CodedColumns HeadFault) : Type 0 where
  pub fields : IfOk result (λ coded. AreOfFields table (columns_in coded))
  pub coded : IfOk result (AreCoded table)
  pub count : IfOk result (λ coded. coded.rows ≡ head.rows)
  pub columns : IfOk result (λ coded.
      AreColumns old.held head (length table.schema.fields) (columns_in coded).columns)
  pub refused : IfErr result (λ fault. (p : Part) → fault ≡ NotASegment p
      → (column : ℕ) × (p ≡ parts.Forward column) × FailsColumn table old.held head column)
  pub only_reads : OnlyReads (IsErrOf result ReadFault) old new
  pub log : (file : List ℕ) → AreIn file head.sections → LogsFile file old.log new.log
  pub once : LogsColumns table head old.log new.log

-- the front of a file of the table, and columns of rows of it
pub record MayCompare (table : Table) (name : List ℕ) (head : FileHead) (coded : CodedColumns)
    : Type 0 where
  pub asked : IsSegmentOf table name
  pub read : IsSomeHead table name head
  pub fields : AreOfFields table (columns_in coded)
  pub are : AreCoded table coded
