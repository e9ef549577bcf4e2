-- The columns of a file by the ids of their values (inside the crate alone).
use Rattle.std.specs.Prelude.{◌≡◌, ℕ, List, map, length, slice_get, Some, IfSome, Result, IfErr, IfOk, IsErrOf}
use Rattle.std.specs.List.{All}
use Rattle.outside.specs.Seen as outside
use Rattle.outside.specs.Seen.{OnlyReads}
use Rattle.csv_text.specs.Coded.{IsCodedColumn, listed}
use Rattle.csv_text.specs.declared.coded.CodedColumn.{CodedColumn}
use Rattle.value_ids.specs.Dictionary.{Distinct}
use Rattle.table_schema.specs.declared.table.Table.{Table}
use Rattle.segment_file.specs.declared.fault.HeadFault.{HeadFault}
use Rattle.segment_file.specs.declared.fault.HeadFault.TheVariants.{NotASegment, ReadFault}
use Rattle.segment_file.specs.declared.part.Part.{Part}
use Rattle.segment_file.specs.declared.part.Part.TheVariants as parts
use Rattle.segment_head.specs.Heads.{AreIn, Seen}
use Rattle.segment_build.specs.FileReads.{LogsFile}
use Rattle.segment_check.specs.Reading.{AreColumns, FailsColumn, HasIdsOf, IsColumn, LogsColumns}

-- a column was read by its ids, or its forward index has no such ids
pub record ReadsCodedColumn (head : Seen) (column : ℕ) (old new : outside.Seen)
    (result : Result CodedColumn HeadFault) : Type 0 where
  pub own : IfOk result (λ c.
      slice_get head.dictionaries column ≡ Some (Some c.dictionary.now))
  pub coded : IfOk result (IsCodedColumn head.rows)
  pub column_is : IfOk result (λ c. (d : Distinct)
      → slice_get head.dictionaries column ≡ Some (Some d)
      → IsColumn old.held head column d (listed c).values)
  pub refused : IfErr result (λ fault. (p : Part) → fault ≡ NotASegment p
      → (p ≡ parts.Forward column) × ((d : Distinct)
      → slice_get head.dictionaries column ≡ Some (Some d)
      → IfSome old.held (λ files. ¬ HasIdsOf files head column (length d.values))))
  pub only_reads : OnlyReads (IsErrOf result ReadFault) old new

-- the columns of a file with this head were read by their ids, or the first that has not its ids
pub record ReadsCoded {A : Type 0} (columns_in : A → List CodedColumn) (table : Table) (head : Seen)
    (old new : outside.Seen) (result : Result A HeadFault) : Type 0 where
  pub coded : IfOk result (λ a. All (IsCodedColumn head.rows) (columns_in a))
  pub columns : IfOk result (λ a. AreColumns old.held head (length table.schema.fields)
      (map listed (columns_in a)))
  pub refused : IfErr result (λ fault. (p : Part) → fault ≡ NotASegment p
      → (column : ℕ) × (p ≡ parts.Forward column) × FailsColumn table old.held head column)
  pub only_reads : OnlyReads (IsErrOf result ReadFault) old new
  pub log : (file : List ℕ) → AreIn file head.sections → LogsFile file old.log new.log
  pub once : LogsColumns table head old.log new.log
