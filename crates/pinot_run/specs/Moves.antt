-- What one command does to a state, and reads of it.
use Rattle.std.specs.Prelude.{◌≡◌, ◌⊎◌, Option, IsSomeAnd}
use Rattle.outside.specs.Counts.{Rose}
use Rattle.outside.specs.Files.{Files}
use Rattle.outside.specs.Sink.{AppendsPrefix}
use Rattle.table_schema.specs.declared.table.Table.{Table}
use Rattle.table_store.specs.Accepted.{IsAccepted}
use Rattle.table_store.specs.Stands.{Stands}
use Rattle.table_store.specs.State.{HasTable, NoTable, State}
use Rattle.command_words.specs.Command.{Command}
use Rattle.command_words.specs.declared.status.Status.{Status}
use Rattle.command_words.specs.declared.status.Status.TheVariants as status
use Rattle.command_model.specs.Step.{After, HasStep, text_of}
use Rattle.command_model.specs.World.{Devices, Stage}
use Rattle.pinot_run.specs.Laws.{ReadsState, is_done}
use Rattle.pinot_run.specs.Promise.{Counted, IsGiven, IsUndone, Noted}

-- a read of an input file or of the store failed
abbrev pub ReadsFailed : {K : Type 0} → Stage K → Stage K → Type 0
ReadsFailed old new = Rose old.devices.inputs.read_faults new.devices.inputs.read_faults
    ⊎ Rose old.devices.depot.read_faults new.devices.depot.read_faults

-- a stream failed, and the replies grew by a first part of the step's
pub record IsCutShort {K : Type 0} (after : After) (old new : Stage K) : Type 0 where
  pub failed : Rose old.out.faults new.out.faults ⊎ Rose old.notes.faults new.notes.faults
  pub prefix : AppendsPrefix (text_of after.answer) old.out.written new.out.written

-- what a command leaves of a state, and gives, by what its step has and by its status: where a
-- device failed or memory ran out the state before and nothing, or where a stream failed the step's
-- state and a first part of its reply; else all of the step
abbrev pub LeavesOf : ((After → Type 0) → Type 0) → Stage State → Status → Stage State → Type 0
LeavesOf Has old status.ReadFault new = ReadsFailed old new × IsUndone old new
LeavesOf Has old status.WriteFault new =
    (Rose old.devices.depot.write_faults new.devices.depot.write_faults × IsUndone old new)
    ⊎ Has (λ after. IsCutShort after old new × (new.kept ≡ after.state))
LeavesOf Has old status.NoMemory new = IsUndone old new
LeavesOf Has old ended new = Has (λ after. IsGiven after.answer ended old new
    × (new.kept ≡ after.state))

-- what a command read of a state: where there is a table, the files of the table and of its
-- segments alone, and of each segment what the plan of its rows says, at most so where it was not
-- done
abbrev pub ReadsOf : State → Option Command → Status → Devices → Devices → Type 0
ReadsOf NoTable command ended old new = Unit {0}
ReadsOf (HasTable texts segments) command ended old new = (table : Table)
    → IsAccepted texts table
    → ReadsState command (is_done ended) table segments old.depot.log new.depot.log

-- over these input files a command led from the state that is kept before it to the one after it
pub record Moves (files : Files) (command : Option Command) (old : Stage State) (ended : Status)
    (new : Stage State) : Type 0 where
  pub leaves : LeavesOf (HasStep old.kept command files) old ended new
  pub stands : IsSomeAnd new.devices.depot.held (λ stored. Stands stored new.kept)
  pub noted : Noted ended old.notes new.notes
  pub counted : Counted ended old new
  pub reads : ReadsOf old.kept command ended old.devices new.devices
