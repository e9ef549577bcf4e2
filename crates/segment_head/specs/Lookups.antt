-- Values of a dictionary of an open head, which are read where they lie.
use Rattle.std.specs.Prelude.{◌≡◌, ℕ, List, Option, Some, Result, IfErr, IfOk, IfSome, IsErrOf, slice_get}
use Rattle.outside.specs.Reads.{Entry}
use Rattle.outside.specs.Seen as outside
use Rattle.outside.specs.Seen.{OnlyReads}
use Rattle.table_schema.specs.declared.table.Table.{Table}
use Rattle.value_ids.specs.Dictionary.{Distinct}
use Rattle.dictionary_reading.specs.InFile.{LogsInside}
use Rattle.segment_file.specs.declared.fault.HeadFault.{HeadFault}
use Rattle.segment_file.specs.declared.fault.HeadFault.TheVariants.{NotASegment, ReadFault}
use Rattle.segment_file.specs.declared.part.Part.{Part}
use Rattle.segment_head.specs.Heads.{OfWhole, Seen, dictionary_section}

-- the dictionary of a column of the head, if it is loaded, has P
abbrev pub OfColumn : ℕ → (Distinct → Type 0) → Seen → Type 0
OfColumn column P head = (d : Distinct) → slice_get head.dictionaries column ≡ Some (Some d) → P d

-- what was read has P with the whole head; or the file is refused, where the whole head does not
-- have Q
pub record ReadsWhere {A : Type 0} (P : A → Seen → Type 0) (Q : Seen → Type 0) (table : Table)
    (head : Seen) (old new : outside.Seen) (result : Result A HeadFault) : Type 0 where
  pub told : IfOk result (λ a. OfWhole table old.held head (P a))
  pub refused : IfErr result (λ fault. (p : Part) → fault ≡ NotASegment p
      → OfWhole table old.held head (λ whole. ¬ Q whole))
  pub only_reads : OnlyReads (IsErrOf result ReadFault) old new

-- the told log grew by reads of the dictionary of a column alone, which gave at most so many bytes
-- together
abbrev pub LogsDictionary : Seen → ℕ → ℕ → Option (List Entry) → Option (List Entry) → Type 0
LogsDictionary head column most old new = IfSome (dictionary_section head column)
    (λ s. LogsInside s.place most old new)
