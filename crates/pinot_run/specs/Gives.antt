-- What is given of a result.
use Rattle.std.specs.Prelude.{◌≡◌, ◌⊎◌, ◌≤◌, ℕ, List, Result, Ok, Err}
use Rattle.outside.specs.Counts.{Rose}
use Rattle.outside.specs.Seen.{Heard}
use Rattle.outside.specs.Sink.{appended, AppendsPrefix}
use Rattle.command_words.specs.Notes.{note_text, status_of, status_of_fault}
use Rattle.command_words.specs.declared.fault.Fault.{Fault}
use Rattle.command_words.specs.declared.note.Note.{Note}
use Rattle.command_words.specs.declared.status.Status.{Status}
use Rattle.command_words.specs.declared.status.Status.TheVariants as status
use Rattle.command_words.specs.declared.stop.Stop.{Stop}
use Rattle.command_words.specs.declared.stop.Stop.TheVariants as stop
use Rattle.pinot_run.specs.Promise.{Noted}

-- a text was given whole; or the stream of replies failed at it, of which it took a first part
pub record GaveText (text : List ℕ) (ended : Status) (out out_new notes notes_new : Heard) : Type 0
  where
    pub ends : (ended ≡ status.Done) ⊎ (ended ≡ status.WriteFault)
    pub done : ended ≡ status.Done → (out_new.written ≡ appended text out.written)
        × (notes_new.written ≡ notes.written)
    pub cut : ended ≡ status.WriteFault → Rose out.faults out_new.faults
    pub prefix : AppendsPrefix text out.written out_new.written
    pub later : out.faults ≤ out_new.faults
    pub unchanged : ended ≡ status.Done → out_new.faults ≡ out.faults
    pub noted : Noted ended notes notes_new

-- the line of a refusal was given whole; or the notes failed at it; or there was no memory for it
pub record GaveNote (line : Note) (ended : Status) (notes notes_new : Heard) : Type 0 where
  pub ends : (ended ≡ status_of line) ⊎ (ended ≡ status.WriteFault) ⊎ (ended ≡ status.NoMemory)
  pub done : ended ≡ status_of line → notes_new.written ≡ appended (note_text line) notes.written
  pub cut : ended ≡ status.WriteFault → Rose notes.faults notes_new.faults
  pub noted : Noted ended notes notes_new

-- a fault was noted
pub record GaveFault (why : Fault) (ended : Status) (notes notes_new : Heard) : Type 0 where
  pub ends : ended ≡ status_of_fault why
  pub noted : Noted ended notes notes_new

-- what was given of a result; of one without a reply the stream of replies is as it was
abbrev pub Gives : Result (List ℕ) Stop → Status → Heard → Heard → Heard → Heard → Type 0
Gives (Ok text) ended out out_new notes notes_new = GaveText text ended out out_new notes notes_new
Gives (Err (stop.Refused line)) ended out out_new notes notes_new =
    GaveNote line ended notes notes_new × (out_new ≡ out)
Gives (Err (stop.Fault why)) ended out out_new notes notes_new =
    GaveFault why ended notes notes_new × (out_new ≡ out)
