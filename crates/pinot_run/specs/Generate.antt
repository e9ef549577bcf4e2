-- What `generate` does: several commands, one after another, each aside, and what is given of them.
-- What one command does is a parameter, and so is what is kept from one command to the next.
use Rattle.std.specs.Prelude.{◌≡◌, ◌≢◌, ◌⊎◌, ◌≤◌, ℕ, true, false, List, [], ◌∷◌, Option, Some}
use Rattle.outside.specs.Counts.{Rose}
use Rattle.outside.specs.Seen.{Heard}
use Rattle.outside.specs.Sink.{appended, AppendsPrefix}
use Rattle.command_words.specs.Command.{Command}
use Rattle.command_words.specs.Notes.{is_fault}
use Rattle.command_words.specs.declared.status.Status.{Status}
use Rattle.command_words.specs.declared.status.Status.TheVariants as status
use Rattle.command_model.specs.Generated.{generate_commands, generated_text}
use Rattle.command_model.specs.World.{Devices, Stage, World}
use Rattle.pinot_run.specs.Promise.{Noted}

-- ---- commands aside

-- a stream that never failed and was given this
abbrev pub told : List ℕ → Heard
told bytes = record { written = Some bytes; faults = 0 }

-- the devices and what is kept, with streams of their own, which were given this
abbrev pub aside : {K : Type 0} → Devices → K → List ℕ → List ℕ → Stage K
aside devices kept text line = record {
  devices = devices;
  out = told text;
  notes = told line;
  kept = kept;
}

-- commands were run one after another, each with streams of its own, up to the first that was not
-- done: how the last ended, the replies of those that were done, and the note line of the last
abbrev pub RunsThrough : {K : Type 0} → (Option Command → Stage K → Status → Stage K → Type 0)
    → List (Option Command) → Devices → K → Status → List (List ℕ) → List ℕ → Devices → K → Type 0
RunsThrough P [] old kept said texts line new left = (said ≡ status.Done) × (texts ≡ [])
    × (line ≡ []) × (new ≡ old) × (left ≡ kept)
RunsThrough {K = K} P (command ∷ commands) old kept said texts line new left =
    ((said ≢ status.Done) × (texts ≡ [])
    × P command (aside old kept [] []) said (aside new left [] line))
    ⊎ ((text : List ℕ) × (mid : Devices) × (between : K) × (more : List (List ℕ))
    × P command (aside old kept [] []) status.Done (aside mid between text [])
    × RunsThrough P commands mid between said more line new left × (texts ≡ text ∷ more))

-- ---- what is given of them

-- these devices, with these streams
abbrev pub after : Devices → Heard → Heard → World
after devices out notes = record { devices = devices; out = out; notes = notes; kept = tt }

-- where all were done the line for so many rows, and else nothing
abbrev pub line_after : ℕ → Status → List (List ℕ) → List ℕ
line_after rows status.Done texts = generated_text rows texts
line_after rows other texts = []

-- all was given that there was to give
pub record IsPrinted {K : Type 0} (text line : List ℕ) (old new : Stage K) : Type 0 where
  pub out : new.out.written ≡ appended text old.out.written
  pub notes : new.notes.written ≡ appended line old.notes.written

-- a stream failed, and the replies grew by a first part
pub record IsPartPrinted {K : Type 0} (text : List ℕ) (old new : Stage K) : Type 0 where
  pub failed : Rose old.out.faults new.out.faults ⊎ Rose old.notes.faults new.notes.faults
  pub prefix : AppendsPrefix text old.out.written new.out.written

-- how commands that ended so were told of: all was given; or a stream failed; or there was no
-- memory for what was to be given, and nothing was replied; or the last had a fault, and nothing
-- was replied
abbrev pub Tells : {K : Type 0} → Status → List ℕ → List ℕ → Stage K → Status → Stage K → Type 0
Tells said text line old ended new =
    ((is_fault said ≡ false) × (ended ≡ said) × IsPrinted text line old new)
    ⊎ ((is_fault said ≡ false) × (ended ≡ status.WriteFault) × IsPartPrinted text old new)
    ⊎ ((is_fault said ≡ false) × (ended ≡ status.NoMemory) × (new.out.written ≡ old.out.written))
    ⊎ ((is_fault said ≡ true) × (ended ≡ said) × (new.out.written ≡ old.out.written))

-- so many rows were generated: the commands were run, as far as they were done, and told of
pub record Generates {K : Type 0} (P : Option Command → Stage K → Status → Stage K → Type 0)
    (rows : ℕ) (old : Stage K) (ended : Status) (new : Stage K) : Type 0 where
  pub said : Status
  pub texts : List (List ℕ)
  pub line : List ℕ
  pub runs : RunsThrough P (generate_commands rows) old.devices old.kept said texts line new.devices
      new.kept
  pub tells : Tells said (line_after rows said texts) line old ended new
  pub noted : Noted ended old.notes new.notes
  pub counted : ended ≢ status.WriteFault → new.out.faults ≡ old.out.faults
  pub later : old.out.faults ≤ new.out.faults
