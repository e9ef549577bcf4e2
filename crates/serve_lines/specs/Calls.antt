-- What the calls for lines answer and leave.
use Rattle.std.specs.Prelude.{◌≡◌, ◌≢◌, ◌⊎◌, ◌+◌, ℕ, List, Option, Some, None, Result, Ok, Err, IfErr, IfSome, IsErrAnd, IsSomeAnd, OnOk}
use Rattle.outside.specs.Counts.{Rose}
use Rattle.outside.specs.Files.{Files, without_file}
use Rattle.outside.specs.Seen.{OnlyReads, Seen}
use Rattle.table_schema.specs.ValidTable.{IsValidTable}
use Rattle.table_schema.specs.declared.table.Table.{Table}
use Rattle.table_store.specs.Kept.{IsKeptName}
use Rattle.table_store.specs.Segments.{HasSegment, LacksSegment}
use Rattle.table_store.specs.Stands.{Stands}
use Rattle.table_store.specs.State.{HasTable, State, Texts}
use Rattle.cursor_serve.specs.Machine as machine
use Rattle.cursor_serve.specs.Machine.{Machine, most_cursor_groups, most_cursors}
use Rattle.cursor_serve.specs.ServingStands.{OpenCursor, ServingStands, segments_of}
use Rattle.serving.specs.declared.fault.ServeFault.{ServeFault}
use Rattle.serving.specs.declared.fault.ServeFault.TheVariants as serve
use Rattle.command_words.specs.ServeLine.{ServeLine}
use Rattle.command_words.specs.declared.fault.Fault.{Fault}
use Rattle.command_words.specs.declared.fault.Fault.TheVariants as fault
use Rattle.command_words.specs.declared.note.Counted.TheVariants as counted
use Rattle.command_words.specs.declared.note.Note.TheVariants as note
use Rattle.command_words.specs.declared.stop.Stop.{Stop}
use Rattle.command_words.specs.declared.stop.Stop.TheVariants as stop
use Rattle.command_model.specs.Gives.{LooksFor}
use Rattle.command_model.specs.Profile.{TableFile, tree_limit}
use Rattle.command_model.specs.Ran.{Counts}
use Rattle.command_model.specs.Step.{Refuses, Replies}
use Rattle.command_model.specs.Stored.{HasTableFile, TableRefuses}
use Rattle.command_model.specs.World.{Devices}
use Rattle.serve_lines.specs.Kept.{AreBefore, HasNoKept, Kept, StandsServed, live_state, served_of}
use Rattle.serve_lines.specs.Step.{After, Served, by_machine, over_table, serve_step}

-- what holds wherever both files are told
abbrev pub WhereTold : Option Files → Option Files → (Files → Files → Type 0) → Type 0
WhereTold inputs stored P = IfSome inputs (λ files. IfSome stored (λ kept. P files kept))

-- ---- a line

-- a result is the answer of a line, and what is kept stands for what the line leaves; or there was
-- a fault, and the store stands for the lists that were live
abbrev pub IsAnswerOf : After → (Served → Type 0) → Type 0 → Result (List ℕ) Stop → Type 0
IsAnswerOf after stands live (Ok text) = (after.answer ≡ Replies text) × stands after.left
IsAnswerOf after stands live (Err (stop.Refused line)) = (after.answer ≡ Refuses line)
    × stands after.left
IsAnswerOf after stands live (Err (stop.Fault why)) = live

-- the cause of a fault: a call on a device failed in it
abbrev pub IsCaused : Devices → Devices → Fault → Type 0
IsCaused old new fault.Read = Rose old.inputs.read_faults new.inputs.read_faults
    ⊎ Rose old.depot.read_faults new.depot.read_faults
IsCaused old new fault.Write = Rose old.depot.write_faults new.depot.write_faults
IsCaused old new fault.Memory = Unit {0}

abbrev pub StopIsCaused : Devices → Devices → Stop → Type 0
StopIsCaused old new (stop.Refused line) = Unit {0}
StopIsCaused old new (stop.Fault why) = IsCaused old new why

-- a line of this number was answered, from all that files and what is kept stand for
pub record AnswersLine (number : ℕ) (line : Option ServeLine) (old new : Devices)
    (kept left : Kept) (result : Result (List ℕ) Stop) : Type 0 where
  pub serves : WhereTold old.inputs.held old.depot.held (λ inputs stored. (state : Served)
      → StandsServed number kept stored state → IsSomeAnd new.depot.held (λ files.
      IsAnswerOf (serve_step number line inputs state) (StandsServed (number + 1) left files)
      (Stands files (live_state state)) result))
  pub given : new.inputs.held ≡ old.inputs.held
  pub counted : Counts result old new
  pub caused : IfErr result (StopIsCaused old new)

-- ---- lines over a table

-- the table is kept already; or it was looked for, and is kept if it is there
abbrev pub FindsTable : Option Table → Seen → Seen → Option Table → Result (Unit {0}) Stop → Type 0
FindsTable (Some table) old new left result = (result ≡ Ok tt) × (left ≡ Some table) × (new ≡ old)
FindsTable None old new left (Ok done) = (table : Table) × (left ≡ Some table)
    × IsValidTable table × LooksFor HasTableFile TableRefuses TableFile old new (Ok table)
FindsTable None old new left (Err why) = (left ≡ None)
    × LooksFor {A = Table} HasTableFile TableRefuses TableFile old new (Err why)

-- what a line of this number answers and leaves over a table, from all that files and what is kept
-- stand for
pub record AnswersSo (step : Files → Texts → Machine → After) (number : ℕ) (table : Table)
    (old new : Devices) (cursors left : List OpenCursor) (result : Result (List ℕ) Stop) : Type 0
  where
    pub serves : WhereTold old.inputs.held old.depot.held (λ inputs stored. (texts : Texts)
        (m : Machine) → ServingStands cursors stored texts table m → AreBefore number m
        → IsSomeAnd new.depot.held (λ files. IsAnswerOf (step inputs texts m)
        (StandsServed (number + 1) (record { table = Some table; cursors = left }) files)
        (Stands files (HasTable texts (segments_of m.live))) result))
    pub given : new.inputs.held ≡ old.inputs.held
    pub counted : Counts result old new
    pub caused : IfErr result (StopIsCaused old new)

-- that is what the line asks for
abbrev pub AnswersOver : ℕ → ServeLine → Table → Devices → Devices → List OpenCursor
    → List OpenCursor → Result (List ℕ) Stop → Type 0
AnswersOver number line = AnswersSo (over_table number line) number

-- that is a step of the machine, in words
abbrev pub AnswersBy : {A : Type 0} → ℕ → (A → List ℕ) → List ℕ → (Machine → machine.After A)
    → Table → Devices → Devices → List OpenCursor → List OpenCursor → Result (List ℕ) Stop → Type 0
AnswersBy number text name step = AnswersSo (λ inputs texts m. by_machine texts name text (step m))
    number

-- a cursor was closed since a file is no segment's; or that failed
pub record IsGivenUp (old new : Seen) (s : Stop) : Type 0 where
  pub reads : new.read_faults ≡ old.read_faults
  pub writes : s ≢ stop.Fault fault.Write → new.write_faults ≡ old.write_faults
  pub rose : s ≡ stop.Fault fault.Write → Rose old.write_faults new.write_faults
  pub no_read : s ≢ stop.Fault fault.Read

-- there is a segment of a name; or there is none, or a look failed, or memory ran out
abbrev pub StopsSegment : List ℕ → Option Files → Stop → Type 0
StopsSegment name held (stop.Refused line) = (line ≡ note.NoSegment name)
    × LacksSegment held name
StopsSegment name held (stop.Fault fault.Read) = Unit {0}
StopsSegment name held (stop.Fault fault.Write) = ⊥
StopsSegment name held (stop.Fault fault.Memory) = Unit {0}

pub record FindsSegment (name : List ℕ) (old new : Seen) (result : Result (Unit {0}) Stop)
    : Type 0 where
  pub there : OnOk result (HasSegment old.held name)
  pub reads : OnlyReads (IsErrAnd result (λ s. s ≡ stop.Fault fault.Read)) old new
  pub stops : IfErr result (StopsSegment name old.held)

-- what a fault of a call on the cursor or the segment of this name is for a line
abbrev pub IsServeStop : List ℕ → ServeFault → Stop → Type 0
IsServeStop name serve.CursorTaken s = (s ≡ stop.Refused (note.CursorTaken name))
    ⊎ (s ≡ stop.Fault fault.Memory)
IsServeStop name serve.TooManyCursors s = s ≡ stop.Refused
    (note.TooLarge counted.Cursors most_cursors)
IsServeStop name serve.NoCursor s = (s ≡ stop.Refused (note.NoCursor name))
    ⊎ (s ≡ stop.Fault fault.Memory)
IsServeStop name serve.TooManyGroups s = s ≡ stop.Refused (note.TooManyGroups most_cursor_groups)
IsServeStop name serve.NoSegment s = (s ≡ stop.Refused (note.NoSegment name))
    ⊎ (s ≡ stop.Fault fault.Memory)
IsServeStop name serve.TooLarge s = s ≡ stop.Refused (note.TooLarge counted.TreeBytes tree_limit)
IsServeStop name (serve.NotASegment part) s = ⊥
IsServeStop name serve.ReadFault s = s ≡ stop.Fault fault.Read
IsServeStop name serve.WriteFault s = s ≡ stop.Fault fault.Write
IsServeStop name serve.NoMemory s = s ≡ stop.Fault fault.Memory

-- ---- the begin and the end

-- a fault before or after the lines counts so, and has its cause
pub record HasFaultOf {A : Type 0} (old new : Seen) (result : Result A Fault) : Type 0 where
  pub reads : ¬ (result ≡ Err fault.Read) → new.read_faults ≡ old.read_faults
  pub writes : ¬ (result ≡ Err fault.Write) → new.write_faults ≡ old.write_faults
  pub read_rose : result ≡ Err fault.Read → Rose old.read_faults new.read_faults
  pub write_rose : result ≡ Err fault.Write → Rose old.write_faults new.write_faults

-- a kept file of this name is gone, and another one is as it was
abbrev pub IsGoneIfKept : List ℕ → Option Files → Option Files → Type 0
IsGoneIfKept name old new = (IsKeptName name × (new ≡ without_file name old))
    ⊎ ((¬ IsKeptName name) × (new ≡ old))

-- what is kept stands for the start over the segments that there are, or there was a fault; either
-- way the store stands for the state that it stood for
abbrev pub IsBegun : State → Files → Result Kept Fault → Type 0
IsBegun state files (Ok kept) = StandsServed 1 kept files (served_of state)
    × HasNoKept files × Stands files state
IsBegun state files (Err why) = Stands files state

pub record Begins (old new : Seen) (result : Result Kept Fault) : Type 0 where
  pub stands : IfSome old.held (λ stored. (state : State) → Stands stored state
      → IsSomeAnd new.held (λ files. IsBegun state files result))
  pub faults : HasFaultOf old new result

-- every cursor is closed, and no file is kept; or there was a fault; either way the store stands
-- for the lists that are live
abbrev pub IsFinished : Served → Files → Result (Unit {0}) Fault → Type 0
IsFinished state files (Ok done) = HasNoKept files × Stands files (live_state state)
IsFinished state files (Err why) = Stands files (live_state state)

pub record Finishes (kept : Kept) (old new : Seen) (result : Result (Unit {0}) Fault) : Type 0
  where
    pub stands : IfSome old.held (λ stored. (number : ℕ) (state : Served)
        → StandsServed number kept stored state
        → IsSomeAnd new.held (λ files. IsFinished state files result))
    pub faults : HasFaultOf old new result

-- what a fault of a close is, which no file is read for
abbrev pub close_fault : ServeFault → Fault
close_fault serve.WriteFault = fault.Write
close_fault other = fault.Memory
