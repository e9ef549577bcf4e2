-- What the lines of `serve` print and leave over a store that stands for a state: what the machine
-- of cursors answers, line by line.
use Rattle.std.specs.Prelude.{◌≡◌, ◌≢◌, ◌⊎◌, ℕ, false, List, map, Some, Result, Ok, Err, IsSomeAnd}
use Rattle.std.specs.FinMap as tree
use Rattle.std.specs.List.{IsDistinct, list_any}
use Rattle.std.specs.Ordering.{eq_by_cmp}
use Rattle.std.specs.Str.Lines.{lines}
use Rattle.outside.specs.Counts.{Rose}
use Rattle.outside.specs.Files.{Files, OfFile, name_order}
use Rattle.outside.specs.Sink.{AppendsPrefix}
use Rattle.table_store.specs.Kept.{IsKeptName, kept_name}
use Rattle.table_store.specs.Stands.{Stands}
use Rattle.table_store.specs.State.{State}
use Rattle.cursor_serve.specs.Machine.{KeptList}
use Rattle.command_words.specs.Command.{Open}
use Rattle.command_words.specs.Notes.{is_fault, status_of_fault}
use Rattle.command_words.specs.ServeLine.{serve_line_of}
use Rattle.command_words.specs.declared.fault.Fault.{Fault}
use Rattle.command_words.specs.declared.note.Note.{Note}
use Rattle.command_words.specs.declared.status.Status.{Status}
use Rattle.command_words.specs.declared.status.Status.TheVariants as status
use Rattle.command_model.specs.Step.{Refuses, text_of}
use Rattle.command_model.specs.World.{Stage, World, beside}
use Rattle.serve_lines.specs.Calls.{IsCaused}
use Rattle.serve_lines.specs.Kept.{HasNoKept, live_state, served_of}
use Rattle.serve_lines.specs.Step.{After, NoStore, Served, Serves, serve_step}
use Rattle.pinot_run.specs.Moves.{Moves, ReadsFailed}
use Rattle.pinot_run.specs.Promise.{IsGiven, Noted}
use Rattle.pinot_run.specs.Serve.{RunsNumbered, RunsServe}
use Rattle.pinot_run.specs.Text.{words_of}

-- ---- one line

-- what is kept is as it was, and nothing was replied
abbrev pub IsAsBefore : {K : Type 0} → Stage K → Stage K → Type 0
IsAsBefore old new = (new.kept ≡ old.kept) × (new.out.written ≡ old.out.written)

-- a stream failed, and the replies grew by a first part of what the line answers; what it does is
-- done
pub record IsCutAt (after : After) (old new : Stage Served) : Type 0 where
  pub failed : Rose old.out.faults new.out.faults ⊎ Rose old.notes.faults new.notes.faults
  pub prefix : AppendsPrefix (text_of after.answer) old.out.written new.out.written
  pub left : new.kept ≡ after.left

-- a line was refused, which changes nothing, and there was no memory for its note
pub record IsUnnoted (after : After) (old new : Stage Served) : Type 0 where
  pub line : Note
  pub refused : after.answer ≡ Refuses line
  pub left : new.kept ≡ after.left
  pub out : new.out.written ≡ old.out.written

-- what a line leaves, by what it answers and by its status: all of that; or where a device failed
-- or memory ran out what was there before, and nothing replied; or where a stream failed a first
-- part of the reply
abbrev pub LeavesServed : After → Stage Served → Status → Stage Served → Type 0
LeavesServed after old status.ReadFault new = ReadsFailed old new × IsAsBefore old new
LeavesServed after old status.WriteFault new =
    (Rose old.devices.depot.write_faults new.devices.depot.write_faults × IsAsBefore old new)
    ⊎ IsCutAt after old new
LeavesServed after old status.NoMemory new = IsAsBefore old new ⊎ IsUnnoted after old new
LeavesServed after old ended new = IsGiven after.answer ended old new × (new.kept ≡ after.left)

-- the names that files are kept under: one for each list that is kept
abbrev pub kept_names : List KeptList → List (List ℕ)
kept_names kept = map (λ k. kept_name k.listed.name k.line) kept

-- there are files of just these names among those whose names end in `.kept`
abbrev pub HasJustKept : Served → Files → Type 0
HasJustKept NoStore files = HasNoKept files
HasJustKept (Serves texts m) files = IsDistinct (eq_by_cmp name_order) (kept_names m.kept)
    × ((file : List ℕ) → IsKeptName file → tree.contains_key files file
    ≡ list_any (eq_by_cmp name_order file) (kept_names m.kept))

-- over these input files a line of this number led from what is kept before it to what is kept
-- after it, and the store stands for the lists that are live then; a fault leaves those that were
pub record LeadsLine (files : Files) (number : ℕ) (line : List ℕ) (old : Stage Served)
    (ended : Status) (new : Stage Served) : Type 0 where
  pub leaves : LeavesServed (serve_step number (serve_line_of (words_of line)) files old.kept) old
      ended new
  pub stands : IsSomeAnd new.devices.depot.held (λ stored. Stands stored (live_state new.kept))
  pub kept : is_fault ended ≡ false → IsSomeAnd new.devices.depot.held (HasJustKept new.kept)
  pub noted : Noted ended old.notes new.notes

-- ---- a file of lines

-- a device failed or memory ran out before the first line or after the last one: the streams of
-- replies is as it was, and so is the state of the store
pub record FailsAside (why : Fault) (state : State) {K : Type 0} (old : Stage K) (ended : Status)
    (new : Stage State) : Type 0 where
  pub ended_so : ended ≡ status_of_fault why
  pub caused : IsCaused old.devices new.devices why
  pub kept : new.kept ≡ state
  pub out : new.out ≡ old.out
  pub noted : Noted ended old.notes new.notes

-- the lines begin over the segments of a state, with no cursor, and nothing is replied so far
pub record StartsServed (old : Stage State) (first : Stage Served) : Type 0 where
  pub kept : first.kept ≡ served_of old.kept
  pub out : first.out ≡ old.out
  pub notes : first.notes ≡ old.notes

-- the lines ended in a fault, and the store stands for the lists that are live then; or all were
-- run, and no file is kept any more; or closing the last cursors failed
abbrev pub EndsServed : Result (Unit {0}) Status → Stage Served → Status → Stage State → Type 0
EndsServed (Err why) last ended new = (ended ≡ why) × (new.kept ≡ live_state last.kept)
    × (new.out ≡ last.out) × (new.notes ≡ last.notes)
EndsServed (Ok done) last ended new =
    ((ended ≡ status.Done) × (new.kept ≡ live_state last.kept) × (new.out ≡ last.out)
    × (new.notes ≡ last.notes) × IsSomeAnd new.devices.depot.held HasNoKept)
    ⊎ ((why : Fault) × FailsAside why (live_state last.kept) last ended new)

-- the lines of a text led from one state to another
abbrev pub LeadsAll : Files → List (List ℕ) → Stage State → Status → Stage State → Type 0
LeadsAll files all old ended new =
    ((why : Fault) × FailsAside why old.kept old ended new)
    ⊎ ((first last : Stage Served) × (said : Result (Unit {0}) Status) × StartsServed old first
    × RunsNumbered (LeadsLine files) 1 all first said last × EndsServed said last ended new)

-- a file of lines led from one state to another: it was not opened; or it was, and its lines led on
pub record MovesServed (files : Files) (file : List ℕ) (old : Stage State) (ended : Status)
    (new : Stage State) : Type 0 where
  pub said : Status
  pub opened : Stage State
  pub opens : Moves files (Some (Open file)) old said opened
  pub follows : ((said ≢ status.Done) × (ended ≡ said) × (new ≡ opened))
      ⊎ ((said ≡ status.Done) × (text : List ℕ)
      × OfFile (Some files) file (λ bytes. bytes ≡ text)
      × LeadsAll files (lines text) opened ended new)
  pub stands : IsSomeAnd new.devices.depot.held (λ stored. Stands stored new.kept)

-- so each `serve` leads on from a store that stands for a state: each `fetch` prints the reply of
-- its cursor's query over the lists that were live at its open
abbrev pub ServedLeads : Type 0
ServedLeads = (files kept : Files) (state : State) (file : List ℕ) (old new : World)
    (ended : Status) → old.devices.inputs.held ≡ Some files → old.devices.depot.held ≡ Some kept
    → Stands kept state → RunsServe file old ended new
    → (next : State) × MovesServed files file (beside state old) ended (beside next new)
