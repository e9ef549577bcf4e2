-- What the functions below a command's own answer.
use Rattle.std.specs.Prelude.{◌≡◌, ◌⊎◌, ◌++◌, ◌<◌, true, false, ℕ, List, [], codes, get_or, length, Option, Some, Result, Ok, Err, IsErrAnd, IfSome, IfErr, IfOk, OnOk}
use Rattle.std.specs.FinMap as finite
use Rattle.std.specs.Str.{is_utf8}
use Rattle.outside.specs.Counts.{Rose}
use Rattle.outside.specs.Files.{Files, Has, Lacks, with_file, without_file}
use Rattle.outside.specs.Whole.{IsTooLong}
use Rattle.values.specs.declared.value.Value.{Value}
use Rattle.csv_ingest.specs.Blocks.{RowsOrFault}
use Rattle.csv_row.specs.declared.fault.CsvFault.{CsvFault}
use Rattle.table_schema.specs.declared.table.Table.{Table}
use Rattle.table_store.specs.Segments.{HasSegment, LacksSegment}
use Rattle.table_store.specs.State as state
use Rattle.table_store.specs.TableFile.{table_file, table_name}
use Rattle.command_model.specs.Consulted.{HasRead, ReadsAbout, ReadsStored}
use Rattle.command_words.specs.Command.{RowSource, TextSource}
use Rattle.command_model.specs.Build.{HasPlace, PlaceRefuses, IsLineOfPlace, built_text, csv_rows, source_rows}
use Rattle.command_model.specs.Create.{Made}
use Rattle.command_model.specs.Drop.{dropped_text}
use Rattle.command_model.specs.Profile.{Opens, StoreFiles, TableFile, place_refuses, query_refuses, rows_refuse, source_refuses, store_refuses, texts_refuse, tree_limit}
use Rattle.command_model.specs.Look.{IsFileOfNone, IsSaid}
use Rattle.command_model.specs.Queried.{IsQueried, QueryRefuses}
use Rattle.command_model.specs.Stored.{part_text}
use Rattle.command_model.specs.Touched.{LogsOpened}
use Rattle.segment_build.specs.FileReads.{LogsFile}
use Rattle.segment_build.specs.Growing.{TreesFit, trees_fit}
use Rattle.segment_file.specs.Image.{image}
use Rattle.segment_file.specs.Names.{file_of}
use Rattle.segment_file.specs.declared.fault.HeadFault.{HeadFault}
use Rattle.segment_file.specs.declared.fault.HeadFault.TheVariants as head
use Rattle.table_schema.specs.declared.field.Field.{Field}
use Rattle.table_store.specs.declared.fault.StoreFault.{StoreFault}
use Rattle.table_store.specs.declared.fault.StoreFault.TheVariants as store
use Rattle.query_executor.specs.declared.fault.ExecutorFault.{ExecutorFault}
use Rattle.query_executor.specs.declared.fault.ExecutorFault.TheVariants as executor
use Rattle.segment_file.specs.declared.part.Part.{Part}
use Rattle.sql_reply.specs.declared.fault.SqlFault.{SqlFault}
use Rattle.sql_reply.specs.declared.fault.SqlFault.TheVariants as query
use Rattle.text_scan.specs.declared.fault.ScanFault.{ScanFault}
use Rattle.text_scan.specs.declared.fault.ScanFault.TheVariants as scan
use Rattle.command_words.specs.Notes.{csv_note, sql_note}
use Rattle.command_model.specs.ScanNotes.{scan_note}
use Rattle.outside.specs.Seen.{Seen, OnlyReads}
use Rattle.command_words.specs.declared.about.About.{About}
use Rattle.command_words.specs.declared.aim.Aim.{Aim}
use Rattle.command_words.specs.declared.fault.Fault.TheVariants as fault
use Rattle.command_words.specs.declared.note.Counted.{Counted}
use Rattle.command_words.specs.declared.note.Counted.TheVariants as counted
use Rattle.command_words.specs.declared.note.Note.{Note}
use Rattle.command_words.specs.declared.note.Note.TheVariants as note
use Rattle.command_words.specs.declared.stop.Stop.{Stop}
use Rattle.command_words.specs.declared.stop.Stop.TheVariants as stop

-- what a query over a text that has no reply is for a command
abbrev pub stop_of : ScanFault → Stop
stop_of scan.NoMemory = stop.Fault fault.Memory
stop_of wrong = stop.Refused (scan_note wrong)

-- a text is refused for what was found first in it; or, where it can be, a read failed; or memory
-- ran out
abbrev pub StopsBy : {A : Type 0} → Option (Result A Note) → Type 0 → Stop → Type 0
StopsBy found Failing (stop.Refused line) = (texts_refuse line ≡ true)
    × IfSome found (λ r. r ≡ Err line)
StopsBy found Failing (stop.Fault fault.Read) = Failing
StopsBy found Failing (stop.Fault fault.Write) = ⊥
StopsBy found Failing (stop.Fault fault.Memory) = Unit {0}

-- the texts of a table are refused for what was found first in them; or, where it can be, a read
-- failed; or memory ran out
abbrev pub StopsTexts : TextSource → Option Made → Type 0 → Stop → Type 0
StopsTexts source found Failing (stop.Refused line) = (source_refuses source line ≡ true)
    × IfSome found (λ r. r ≡ Err line)
StopsTexts source found Failing (stop.Fault fault.Read) = Failing
StopsTexts source found Failing (stop.Fault fault.Write) = ⊥
StopsTexts source found Failing (stop.Fault fault.Memory) = Unit {0}

-- a text is refused for its first fault, or memory ran out
abbrev pub StopsText : RowsOrFault → Stop → Type 0
StopsText whole (stop.Refused line) = (fault : CsvFault) × (whole ≡ Err fault)
    × (line ≡ csv_note fault)
StopsText whole (stop.Fault why) = why ≡ fault.Memory

-- an input file was not read whole: it is not there, or too long, or a read failed, or memory ran
-- out
abbrev pub StopsRead : List ℕ → Counted → ℕ → Option Files → Type 0 → Stop → Type 0
StopsRead file what limit held Failing (stop.Refused line) =
    ((line ≡ note.NoInput file) × Lacks held file) ⊎ ((line ≡ note.TooLarge what limit)
    × IsTooLong held file limit)
StopsRead file what limit held Failing (stop.Fault fault.Read) = Failing
StopsRead file what limit held Failing (stop.Fault fault.Write) = ⊥
StopsRead file what limit held Failing (stop.Fault fault.Memory) = Unit {0}

-- the bytes of a script are UTF-8, and this is its text; or they are none; or memory ran out
abbrev pub OpensBytes : List ℕ → Result (List ℕ) Stop → Type 0
OpensBytes bytes (Ok text) = (text ≡ bytes) × (is_utf8 bytes ≡ true)
OpensBytes bytes (Err (stop.Refused line)) = (line ≡ note.BadWords) × (is_utf8 bytes ≡ false)
OpensBytes bytes (Err (stop.Fault why)) = why ≡ fault.Memory

-- it is not known whether there is a table: a look failed, or memory ran out
abbrev pub StopsLook : Type 0 → Stop → Type 0
StopsLook Failing (stop.Refused line) = ⊥
StopsLook Failing (stop.Fault fault.Read) = Failing
StopsLook Failing (stop.Fault fault.Write) = ⊥
StopsLook Failing (stop.Fault fault.Memory) = Unit {0}

-- a table was made of these texts, or there was one, or a device failed, or memory ran out
abbrev pub Makes : state.Texts → Table → Seen → Seen → Result (List ℕ) Stop → Type 0
Makes texts table old new (Ok text) =
    Lacks old.held table_name × (new.held ≡ with_file table_name (table_file texts) old.held)
    × (text ≡ codes "created " ++ table.settings.table ++ codes "\n")
Makes texts table old new (Err (stop.Refused line)) = (line ≡ note.TableExists)
    × Has old.held table_name × (new.held ≡ old.held)
Makes texts table old new (Err (stop.Fault fault.Read)) = (new.held ≡ old.held)
    × Rose old.read_faults new.read_faults
Makes texts table old new (Err (stop.Fault fault.Write)) = (new.held ≡ old.held)
    × Rose old.write_faults new.write_faults
Makes texts table old new (Err (stop.Fault fault.Memory)) = new.held ≡ old.held

-- ---- the store is looked at

-- a look at the store ends: the files are refused so, or a look failed, or memory ran out
abbrev pub StopsStore : (Files → Note → Type 0) → Option Files → Stop → Type 0
StopsStore Refusal held (stop.Refused line) = (store_refuses line ≡ true)
    × IfSome held (λ files. Refusal files line)
StopsStore Refusal held (stop.Fault fault.Read) = Unit {0}
StopsStore Refusal held (stop.Fault fault.Write) = ⊥
StopsStore Refusal held (stop.Fault fault.Memory) = Unit {0}

-- a call read such files of the store and changed nothing; where the files are told, they are of
-- what it found, or are refused so
pub record LooksFor {A : Type 0} (Found : Files → A → Type 0) (Refusal : Files → Note → Type 0)
    (opens : Opens) (old new : Seen) (result : Result A Stop) : Type 0 where
  pub reads : OnlyReads (IsErrAnd result (λ s. s ≡ stop.Fault fault.Read)) old new
  pub log : LogsOpened opens old.log new.log
  pub found : IfOk result (λ a. IfSome old.held (λ files. Found files a))
  pub stops : IfErr result (StopsStore Refusal old.held)

-- a fault of a look at the table's file, or at the names of files
abbrev pub IsLookFault : StoreFault → Type 0
IsLookFault store.NoTable = Unit {0}
IsLookFault (store.NotASegment part) = Unit {0}
IsLookFault store.ReadFault = Unit {0}
IsLookFault store.NoMemory = Unit {0}
IsLookFault other = ⊥

-- what such a fault is for a command
abbrev pub IsStopOf : StoreFault → Stop → Type 0
IsStopOf store.NoTable s = s ≡ stop.Refused note.NoTable
IsStopOf (store.NotASegment part) s = (s ≡ stop.Refused (note.NotASegment table_name
    (codes "table"))) ⊎ (s ≡ stop.Fault fault.Memory)
IsStopOf store.ReadFault s = s ≡ stop.Fault fault.Read
IsStopOf store.NoMemory s = s ≡ stop.Fault fault.Memory
IsStopOf other s = ⊥

-- the file of a segment of this name is refused for a part of it, or memory ran out
abbrev pub IsSegmentStop : List ℕ → List Field → Part → Stop → Type 0
IsSegmentStop name fields part s = (s ≡ stop.Refused (note.NotASegment name
    (part_text fields part))) ⊎ (s ≡ stop.Fault fault.Memory)

-- there is no segment of a name, or memory ran out
abbrev pub IsMissingStop : List ℕ → Stop → Type 0
IsMissingStop name s = (s ≡ stop.Refused (note.NoSegment name)) ⊎ (s ≡ stop.Fault fault.Memory)

-- what the fault of a look at a segment of this name is
abbrev pub IsCheckStop : List ℕ → List Field → StoreFault → Stop → Type 0
IsCheckStop name fields store.NoSegment s = IsMissingStop name s
IsCheckStop name fields (store.NotASegment part) s = IsSegmentStop name fields part s
IsCheckStop name fields store.ReadFault s = s ≡ stop.Fault fault.Read
IsCheckStop name fields store.NoMemory s = s ≡ stop.Fault fault.Memory
IsCheckStop name fields other s = ⊥

-- what the fault of a head of a segment of this name is
abbrev pub IsHeadStop : List ℕ → List Field → HeadFault → Stop → Type 0
IsHeadStop name fields (head.NotASegment part) s = IsSegmentStop name fields part s
IsHeadStop name fields head.ReadFault s = s ≡ stop.Fault fault.Read
IsHeadStop name fields head.NoMemory s = s ≡ stop.Fault fault.Memory

-- ---- a query

-- what a query's text that has no reply is for a command
abbrev pub sql_stop : SqlFault → Stop
sql_stop query.NoMemory = stop.Fault fault.Memory
sql_stop wrong = stop.Refused (sql_note wrong)

-- the fault of a query over segments names one of them, where it names any
abbrev pub NamesOneOf : List (List ℕ) → ExecutorFault → Type 0
NamesOneOf names (executor.NotASegment at part) = at < length names
NamesOneOf names other = Unit {0}

-- what the fault of a query over segments of these names is
abbrev pub IsQueryStop : List (List ℕ) → List Field → ExecutorFault → Stop → Type 0
IsQueryStop names fields (executor.Sql wrong) s = s ≡ sql_stop wrong
IsQueryStop names fields (executor.NotASegment at part) s = IsSegmentStop
    (get_or names at []) fields part s
IsQueryStop names fields executor.ReadFault s = s ≡ stop.Fault fault.Read

-- a query ends: the files refuse it so, or a look failed, or memory ran out
abbrev pub StopsQuery : About → List ℕ → Option Files → Stop → Type 0
StopsQuery about sql held (stop.Refused line) = (query_refuses about line ≡ true)
    × IfSome held (λ files. QueryRefuses about sql files line)
StopsQuery about sql held (stop.Fault fault.Read) = Unit {0}
StopsQuery about sql held (stop.Fault fault.Write) = ⊥
StopsQuery about sql held (stop.Fault fault.Memory) = Unit {0}

-- a call read files of the store and changed nothing; where the files are told, the query has this
-- reply over them, or they refuse it so
pub record AnswersQuery (about : About) (sql : List ℕ) (old new : Seen)
    (result : Result (List ℕ) Stop) : Type 0 where
  pub reads : OnlyReads (IsErrAnd result (λ s. s ≡ stop.Fault fault.Read)) old new
  pub log : LogsOpened StoreFiles old.log new.log
  pub found : IfOk result (λ text. IfSome old.held (λ files. IsQueried about files sql text))
  pub consulted : IfOk result (λ text. IfSome old.held (λ files.
      HasRead (ReadsAbout about sql true) files old.log new.log))
  pub at_most : ReadsStored (ReadsAbout about sql false) old.held old.log new.log
  pub stops : IfErr result (StopsQuery about sql old.held)

-- ---- a segment is built

-- a look for a place for a segment of this name ends: the files refuse it so, or a look failed, or
-- memory ran out
abbrev pub StopsPlace : List ℕ → Option Files → Stop → Type 0
StopsPlace name held (stop.Refused line) = (place_refuses line ≡ true) × IsLineOfPlace name line
    × IfSome held (λ files. PlaceRefuses name files line)
StopsPlace name held (stop.Fault fault.Read) = Unit {0}
StopsPlace name held (stop.Fault fault.Write) = ⊥
StopsPlace name held (stop.Fault fault.Memory) = Unit {0}

-- a call read the table's file alone and changed nothing; where the files are told, they have this
-- table with a place for a segment of this name, or refuse it so
pub record FindsPlace (name : List ℕ) (old new : Seen) (result : Result Table Stop) : Type 0 where
  pub reads : OnlyReads (IsErrAnd result (λ s. s ≡ stop.Fault fault.Read)) old new
  pub log : LogsOpened TableFile old.log new.log
  pub found : IfOk result (λ table. IfSome old.held (λ files. HasPlace files name table))
  pub stops : IfErr result (StopsPlace name old.held)

-- a name is taken, or memory ran out
abbrev pub IsTakenStop : List ℕ → Stop → Type 0
IsTakenStop name s = (s ≡ stop.Refused (note.NameTaken name)) ⊎ (s ≡ stop.Fault fault.Memory)

-- a CSV file has no rows over these fields, or a read failed, or memory ran out
abbrev pub StopsRows : List Field → List ℕ → Option Files → Type 0 → Stop → Type 0
StopsRows fields csv held Failing (stop.Refused line) = (rows_refuse line ≡ true)
    × IfSome held (λ files. csv_rows fields csv (finite.get files csv) ≡ Err line)
StopsRows fields csv held Failing (stop.Fault fault.Read) = Failing
StopsRows fields csv held Failing (stop.Fault fault.Write) = ⊥
StopsRows fields csv held Failing (stop.Fault fault.Memory) = Unit {0}

-- there are no rows to be generated, or memory ran out
abbrev pub StopsGenerated : Result (List (List Value)) Note → Stop → Type 0
StopsGenerated found (stop.Refused line) = (rows_refuse line ≡ true) × (found ≡ Err line)
StopsGenerated found (stop.Fault why) = why ≡ fault.Memory

-- there are no rows over these fields, or a read failed, or memory ran out
abbrev pub StopsSource : List Field → RowSource → Option Files → Type 0 → Stop → Type 0
StopsSource fields source held Failing (stop.Refused line) = (rows_refuse line ≡ true)
    × IfSome held (λ files. source_rows fields source files ≡ Err line)
StopsSource fields source held Failing (stop.Fault fault.Read) = Failing
StopsSource fields source held Failing (stop.Fault fault.Write) = ⊥
StopsSource fields source held Failing (stop.Fault fault.Memory) = Unit {0}

-- a segment of these rows was published, or a tree of them is too large, or the store could not be
-- written, or memory ran out
abbrev pub Publishes : Table → List ℕ → List (List Value) → Seen → Seen → Result (List ℕ) Stop
    → Type 0
Publishes table name rows old new (Ok text) = (new.held ≡ with_file (file_of name)
    (image 1 table name rows) old.held) × (text ≡ built_text name rows) × TreesFit table rows
Publishes table name rows old new (Err (stop.Refused line)) =
    (line ≡ note.TooLarge counted.TreeBytes tree_limit) × (trees_fit table rows ≡ false)
    × (new.held ≡ old.held)
Publishes table name rows old new (Err (stop.Fault fault.Read)) = ⊥
Publishes table name rows old new (Err (stop.Fault fault.Write)) = (new.held ≡ old.held)
    × Rose old.write_faults new.write_faults
Publishes table name rows old new (Err (stop.Fault fault.Memory)) = new.held ≡ old.held

-- ---- a segment is looked at

-- why the segment of this name of a table is refused: there is none, or its file is of no rows for
-- this part of it
abbrev pub RefusesSegment : Aim → Table → List ℕ → Option Files → Note → Type 0
RefusesSegment aim table name held (note.NoSegment none) = (none ≡ name) × LacksSegment held name
RefusesSegment aim table name held (note.NotASegment of part) = (of ≡ name) × HasSegment held name
    × IfSome held (λ files. (wrong : Part) × IsFileOfNone aim table files name wrong
    × (part ≡ part_text table.schema.fields wrong))
RefusesSegment aim table name held other = ⊥

-- a look at a segment ends: it is refused so, or a look failed, or memory ran out
abbrev pub StopsSegment : Aim → Table → List ℕ → Option Files → Stop → Type 0
StopsSegment aim table name held (stop.Refused line) = RefusesSegment aim table name held line
StopsSegment aim table name held (stop.Fault fault.Read) = Unit {0}
StopsSegment aim table name held (stop.Fault fault.Write) = ⊥
StopsSegment aim table name held (stop.Fault fault.Memory) = Unit {0}

-- a call read the file of a segment alone and changed nothing; where files are told, that file is
-- of rows of which this is said, or is refused so
pub record FindsSegment (aim : Aim) (table : Table) (name : List ℕ) (old new : Seen)
    (result : Result (List ℕ) Stop) : Type 0 where
  pub reads : OnlyReads (IsErrAnd result (λ s. s ≡ stop.Fault fault.Read)) old new
  pub log : LogsFile (file_of name) old.log new.log
  pub unread : IfSome old.held (λ files. LacksSegment (Some files) name → new.log ≡ old.log)
  pub there : OnOk result (HasSegment old.held name)
  pub found : IfOk result (λ text. IfSome old.held (λ files. IsSaid aim table files name text))
  pub stops : IfErr result (StopsSegment aim table name old.held)

-- ---- a segment is dropped

-- the file of the segment of this name was taken away, or there is none, or a device failed, or
-- memory ran out
abbrev pub Removes : List ℕ → Seen → Seen → Result (List ℕ) Stop → Type 0
Removes name old new (Ok text) = HasSegment old.held name
    × (new.held ≡ without_file (file_of name) old.held) × (text ≡ dropped_text name)
Removes name old new (Err (stop.Refused line)) = (line ≡ note.NoSegment name)
    × LacksSegment old.held name × (new.held ≡ old.held)
Removes name old new (Err (stop.Fault fault.Read)) = (new.held ≡ old.held)
    × Rose old.read_faults new.read_faults
Removes name old new (Err (stop.Fault fault.Write)) = (new.held ≡ old.held)
    × Rose old.write_faults new.write_faults
Removes name old new (Err (stop.Fault fault.Memory)) = new.held ≡ old.held
