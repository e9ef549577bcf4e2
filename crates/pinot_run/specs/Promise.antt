-- What the top call promises of a command.
use Rattle.std.specs.Prelude.{◌≡◌, ◌≢◌, ◌⊎◌, ◌≤◌, ℕ, true, false, List, Option}
use Rattle.outside.specs.Counts.{Rose}
use Rattle.outside.specs.Sink.{appended, AppendsPrefix}
use Rattle.command_words.specs.Command.{Command}
use Rattle.command_model.specs.Consulted.{AtMostRead}
use Rattle.command_words.specs.Notes.{fault_line, is_fault}
use Rattle.command_model.specs.Profile.{may_read, profile}
use Rattle.command_model.specs.Ran.{Acted, IsStepped, WhereStands}
use Rattle.command_model.specs.Step.{After, Answer, HasStep, line_of, status_after, text_of}
use Rattle.command_model.specs.Touched.{Touched}
use Rattle.outside.specs.Seen.{Heard}
use Rattle.command_model.specs.World.{Stage, World}
use Rattle.command_words.specs.declared.status.Status.{Status}
use Rattle.command_words.specs.declared.status.Status.TheVariants as status

-- an answer was given whole
pub record IsGiven {K : Type 0} (answer : Answer) (ended : Status) (old new : Stage K) : Type 0
  where
    pub ended_so : ended ≡ status_after answer
    pub out : new.out.written ≡ appended (text_of answer) old.out.written
    pub notes : new.notes.written ≡ appended (line_of answer) old.notes.written

-- the note line of a status: that of an answer, or that of a fault
abbrev pub IsLineOf : Status → List ℕ → Type 0
IsLineOf ended line = ((answer : Answer) × (status_after answer ≡ ended) × (line_of answer ≡ line))
    ⊎ ((is_fault ended ≡ true) × (fault_line ended ≡ line))

-- the notes grew by the line of this status, or by a part of one line where they failed
pub record Noted (ended : Status) (old new : Heard) : Type 0 where
  pub line : ¬ Rose old.faults new.faults → (line : List ℕ) × IsLineOf ended line
      × (new.written ≡ appended line old.written)
  pub part : (other : Status) × (line : List ℕ) × IsLineOf other line
      × AppendsPrefix line old.written new.written
  pub later : old.faults ≤ new.faults
  pub unchanged : is_fault ended ≡ false → new.faults ≡ old.faults

-- nothing was done to the store nor to what is kept beside it, and nothing given
pub record IsUndone {K : Type 0} (old new : Stage K) : Type 0 where
  pub kept : new.kept ≡ old.kept
  pub stored : new.devices.depot.held ≡ old.devices.depot.held
  pub out : new.out.written ≡ old.out.written

-- the command did what it does, and a stream took a first part of what was given
pub record IsCut {K : Type 0} (command : Option Command) (old new : Stage K) : Type 0 where
  pub answer : Answer
  pub acted : Acted command old.devices new.devices answer
  pub failed : Rose old.out.faults new.out.faults ⊎ Rose old.notes.faults new.notes.faults
  pub prefix : AppendsPrefix (text_of answer) old.out.written new.out.written
  pub whole : ¬ Rose old.out.faults new.out.faults → new.out.written
      ≡ appended (text_of answer) old.out.written

-- an answer that was given whole
pub record IsAnswered {K : Type 0} (command : Option Command) (old : Stage K) (ended : Status)
    (new : Stage K) : Type 0 where
  pub answer : Answer
  pub acted : Acted command old.devices new.devices answer
  pub given : IsGiven answer ended old new

-- what is left after each status, with its cause
abbrev pub Leaves : {K : Type 0} → Option Command → Stage K → Status → Stage K → Type 0
Leaves command old status.ReadFault new =
    (may_read (profile command) ≡ true)
    × (Rose old.devices.inputs.read_faults new.devices.inputs.read_faults
    ⊎ Rose old.devices.depot.read_faults new.devices.depot.read_faults)
    × IsUndone old new
Leaves command old status.WriteFault new =
    (Rose old.devices.depot.write_faults new.devices.depot.write_faults × IsUndone old new)
    ⊎ IsCut command old new
Leaves command old status.NoMemory new = IsUndone old new
Leaves command old ended new = IsAnswered command old ended new

-- no count of faults rose
pub record IsQuiet (old new : World) : Type 0 where
  pub inputs : ¬ Rose old.devices.inputs.read_faults new.devices.inputs.read_faults
  pub depot_reads : ¬ Rose old.devices.depot.read_faults new.devices.depot.read_faults
  pub depot_writes : ¬ Rose old.devices.depot.write_faults new.devices.depot.write_faults
  pub out : ¬ Rose old.out.faults new.out.faults
  pub notes : ¬ Rose old.notes.faults new.notes.faults

-- which counts may have risen: those of reads with a read fault, those of writes with a write
-- fault, and those of the notes with any fault
pub record Counted {K : Type 0} (ended : Status) (old new : Stage K) : Type 0 where
  pub inputs : ended ≢ status.ReadFault → new.devices.inputs.read_faults
      ≡ old.devices.inputs.read_faults
  pub depot_reads : ended ≢ status.ReadFault → new.devices.depot.read_faults
      ≡ old.devices.depot.read_faults
  pub depot_writes : ended ≢ status.WriteFault → new.devices.depot.write_faults
      ≡ old.devices.depot.write_faults
  pub out : ended ≢ status.WriteFault → new.out.faults ≡ old.out.faults
  pub out_later : old.out.faults ≤ new.out.faults

-- a command ended with this step
pub record IsStep (after : After) (ended : Status) (old new : World) : Type 0 where
  pub answer : Answer
  pub stepped : IsStepped after answer new.devices.depot.held
  pub given : IsGiven answer ended old new

-- what one call did, between the world before and the world after
pub record Promise (command : Option Command) (old : World) (ended : Status) (new : World)
    : Type 0 where
  pub step : is_fault ended ≡ false → WhereStands old.devices.inputs.held old.devices.depot.held
      (λ state files. HasStep state command files (λ after. IsStep after ended old new))
  pub leaves : Leaves command old ended new
  pub complete : IsQuiet old new → WhereStands old.devices.inputs.held old.devices.depot.held
      (λ state files. HasStep state command files (λ after.
      ended ≡ status_after after.answer) ⊎ (ended ≡ status.NoMemory))
  pub notes : Noted ended old.notes new.notes
  pub counted : Counted ended old new
  pub touched : Touched command old.devices new.devices
  pub reads : AtMostRead command old.devices new.devices
