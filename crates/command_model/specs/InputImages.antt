-- What the functions below `attach` answer.
use Rattle.std.specs.Prelude.{◌≡◌, ◌⊎◌, ℕ, List, length, Option, Result, Ok, Err, IfErr, IfOk, IsErrAnd}
use Rattle.outside.specs.Counts.{Rose}
use Rattle.outside.specs.Files.{Files, Lacks, OfFile, with_file}
use Rattle.outside.specs.Seen.{OnlyReads, Seen}
use Rattle.values.specs.Columns.{ListedColumns, rows_of}
use Rattle.values.specs.declared.value.Value.{Value}
use Rattle.table_schema.specs.ValidTable.{AreRows}
use Rattle.table_schema.specs.declared.table.Table.{Table}
use Rattle.segment_build.specs.FileReads.{LogsFile}
use Rattle.segment_build.specs.Growing.{TreesFit}
use Rattle.table_store.specs.Images.{IsImageOf, IsNoImage}
use Rattle.segment_file.specs.Image.{image}
use Rattle.segment_file.specs.Names.{file_of}
use Rattle.segment_file.specs.declared.part.Part.{Part}
use Rattle.command_model.specs.Attach.{attached_text}
use Rattle.command_model.specs.Stored.{part_text}
use Rattle.command_words.specs.declared.fault.Fault.TheVariants as fault
use Rattle.command_words.specs.declared.note.Note.{Note}
use Rattle.command_words.specs.declared.note.Note.TheVariants as note
use Rattle.command_words.specs.declared.stop.Stop.{Stop}
use Rattle.command_words.specs.declared.stop.Stop.TheVariants as stop

-- columns of rows of a table, none of whose star-trees is too large
pub record ArePublishable (table : Table) (t : ListedColumns) : Type 0 where
  pub width : length t.columns ≡ length table.schema.fields
  pub rows : AreRows table.schema.fields (rows_of t)
  pub fits : TreesFit table (rows_of t)

-- why an input file is refused as that of a segment of this name: there is none, or it is no image
-- for this part of it
abbrev pub RefusesImage : Table → List ℕ → List ℕ → Option Files → Note → Type 0
RefusesImage table name file held (note.NoInput none) = (none ≡ file) × Lacks held file
RefusesImage table name file held (note.NotASegment of part) = (of ≡ name)
    × (wrong : Part) × (part ≡ part_text table.schema.fields wrong)
    × OfFile held file (λ bytes. IsNoImage table name bytes wrong)
RefusesImage table name file held other = ⊥

-- there is no input file of a name, or memory ran out
abbrev pub IsLackingStop : List ℕ → Stop → Type 0
IsLackingStop file s = (s ≡ stop.Refused (note.NoInput file)) ⊎ (s ≡ stop.Fault fault.Memory)

-- a look at it ends: it is refused so, or a look failed, or memory ran out
abbrev pub StopsImage : Table → List ℕ → List ℕ → Option Files → Stop → Type 0
StopsImage table name file held (stop.Refused line) = RefusesImage table name file held line
StopsImage table name file held (stop.Fault fault.Read) = Unit {0}
StopsImage table name file held (stop.Fault fault.Write) = ⊥
StopsImage table name file held (stop.Fault fault.Memory) = Unit {0}

-- a call read one input file alone and changed nothing; where files are told, it is the image of
-- the rows that were found, or is refused so
pub record FindsImage (table : Table) (name file : List ℕ) (old new : Seen)
    (result : Result ListedColumns Stop) : Type 0 where
  pub reads : OnlyReads (IsErrAnd result (λ s. s ≡ stop.Fault fault.Read)) old new
  pub log : LogsFile file old.log new.log
  pub rows : IfOk result (ArePublishable table)
  pub found : IfOk result (λ t. OfFile old.held file (λ bytes.
      IsImageOf table name bytes (rows_of t)))
  pub stops : IfErr result (StopsImage table name file old.held)

-- a segment of these rows was published, or the store could not be written, or memory ran out
abbrev pub PutsIn : Table → List ℕ → List (List Value) → Seen → Seen → Result (List ℕ) Stop
    → Type 0
PutsIn table name rows old new (Ok text) = (new.held ≡ with_file (file_of name)
    (image 1 table name rows) old.held) × (text ≡ attached_text name (length rows))
PutsIn table name rows old new (Err (stop.Refused line)) = ⊥
PutsIn table name rows old new (Err (stop.Fault fault.Read)) = ⊥
PutsIn table name rows old new (Err (stop.Fault fault.Write)) = (new.held ≡ old.held)
    × Rose old.write_faults new.write_faults
PutsIn table name rows old new (Err (stop.Fault fault.Memory)) = new.held ≡ old.held
