-- What `serve` does: its file is opened, and its lines are answered, one after another, over what
-- is kept from line to line. What one line does is a parameter of the chain of lines.
use Rattle.std.specs.Prelude.{◌≡◌, ◌≢◌, ◌⊎◌, ◌+◌, ℕ, true, false, List, [], ◌∷◌, Some, Result, Ok, Err}
use Rattle.std.specs.Str.Lines.{lines}
use Rattle.outside.specs.Files.{OfFile}
use Rattle.outside.specs.Seen.{Heard, Seen}
use Rattle.command_words.specs.Command.{Open}
use Rattle.command_words.specs.Notes.{is_fault}
use Rattle.command_words.specs.ServeLine.{serve_line_of}
use Rattle.command_words.specs.declared.fault.Fault.{Fault}
use Rattle.command_words.specs.declared.status.Status.{Status}
use Rattle.command_words.specs.declared.status.Status.TheVariants as status
use Rattle.command_words.specs.declared.stop.Stop.{Stop}
use Rattle.command_model.specs.World.{Stage, World, beside}
use Rattle.serve_lines.specs.Calls.{AnswersLine, Begins, Finishes}
use Rattle.serve_lines.specs.Kept.{Kept}
use Rattle.pinot_run.specs.Gives.{GaveFault, Gives}
use Rattle.pinot_run.specs.Promise.{Promise}
use Rattle.pinot_run.specs.Script.{IsMarkCut, IsMarked}
use Rattle.pinot_run.specs.Text.{has_bytes, words_of}

-- ---- one line

-- the line of this number was answered, and its result given
pub record ServesLine (number : ℕ) (line : List ℕ) (old : Stage Kept) (ended : Status)
    (new : Stage Kept) : Type 0 where
  pub result : Result (List ℕ) Stop
  pub answers : AnswersLine number (serve_line_of (words_of line)) old.devices new.devices old.kept
      new.kept result
  pub gives : Gives result ended old.out new.out old.notes new.notes

-- a line was run, and its mark given
pub record LeadsOn {K : Type 0} (P : ℕ → List ℕ → Stage K → Status → Stage K → Type 0) (number : ℕ)
    (line : List ℕ) (old new : Stage K) : Type 0 where
  pub said : Status
  pub between : Stage K
  pub does : P number line old said between
  pub fine : is_fault said ≡ false
  pub marked : IsMarked said between new

-- a line was run, and is the last: it ended in a fault, or its mark did
pub record EndsHere {K : Type 0} (P : ℕ → List ℕ → Stage K → Status → Stage K → Type 0) (number : ℕ)
    (line : List ℕ) (old : Stage K) (ended : Status) (new : Stage K) : Type 0 where
  pub said : Status
  pub between : Stage K
  pub does : P number line old said between
  pub stops : ((is_fault said ≡ true) × (ended ≡ said) × (new ≡ between))
      ⊎ ((is_fault said ≡ false) × (ended ≡ status.WriteFault) × IsMarkCut said between new)

-- ---- lines

-- lines, of which the first has this number, were run, one after another, up to a fault or to the
-- end; empty lines are passed over, and have numbers too
abbrev pub RunsNumbered : {K : Type 0} → (ℕ → List ℕ → Stage K → Status → Stage K → Type 0) → ℕ
    → List (List ℕ) → Stage K → Result (Unit {0}) Status → Stage K → Type 0
RunsNumbered P number [] old ended new = (ended ≡ Ok tt) × (new ≡ old)
RunsNumbered {K = K} P number (line ∷ rest) old ended new =
    ((has_bytes line ≡ false) × RunsNumbered P (number + 1) rest old ended new)
    ⊎ ((has_bytes line ≡ true) × (why : Status) × (ended ≡ Err why)
    × EndsHere P number line old why new)
    ⊎ ((has_bytes line ≡ true) × (next : Stage K) × LeadsOn P number line old next
    × RunsNumbered P (number + 1) rest next ended new)

-- ---- a file of lines

-- a fault before or after the lines was noted; nothing else was done to the streams and the inputs
pub record GaveEnd {A B : Type 0} (why : Fault) (old : Stage A) (ended : Status) (new : Stage B)
    : Type 0 where
  pub gave : GaveFault why ended old.notes new.notes
  pub out : new.out ≡ old.out
  pub inputs : new.devices.inputs ≡ old.devices.inputs

-- with this kept, over such devices and streams
abbrev pub aside : {K : Type 0} → K → Seen → Seen → Heard → Heard → Stage K
aside kept inputs depot out notes = record {
  devices = record { inputs = inputs; depot = depot };
  out = out;
  notes = notes;
  kept = kept;
}

-- the lines ended in a fault; or they were all run, and then every cursor was closed, or that
-- failed
abbrev pub EndsAll : Result (Unit {0}) Status → Stage Kept → Status → World → Type 0
EndsAll (Err why) last ended new = (ended ≡ why) × (new ≡ beside tt last)
EndsAll (Ok done) last ended new =
    ((depot : Seen) × Finishes last.kept last.devices.depot depot (Ok tt)
    × (ended ≡ status.Done)
    × (new ≡ aside tt last.devices.inputs depot last.out last.notes))
    ⊎ ((why : Fault) × Finishes last.kept last.devices.depot new.devices.depot (Err why)
    × GaveEnd why last ended new)

-- the lines begin over such a depot, with this kept
abbrev pub begun : Kept → Seen → World → Stage Kept
begun kept depot old = aside kept old.devices.inputs depot old.out old.notes

-- what was kept for another time was taken away, and the lines were run; or that failed
abbrev pub ServesLines : List (List ℕ) → World → Status → World → Type 0
ServesLines all old ended new =
    ((why : Fault) × Begins old.devices.depot new.devices.depot (Err why)
    × GaveEnd why old ended new)
    ⊎ ((kept : Kept) × (depot : Seen) × Begins old.devices.depot depot (Ok kept)
    × (said : Result (Unit {0}) Status) × (last : Stage Kept)
    × RunsNumbered ServesLine 1 all (begun kept depot old) said last
    × EndsAll said last ended new)

-- the file was not opened; or it was, and the lines of its text were run
abbrev pub ServesOn : List ℕ → World → Status → World → Status → World → Type 0
ServesOn file old said opened ended new =
    ((said ≢ status.Done) × (ended ≡ said) × (new ≡ opened))
    ⊎ ((said ≡ status.Done) × (text : List ℕ)
    × OfFile old.devices.inputs.held file (λ bytes. bytes ≡ text)
    × ServesLines (lines text) opened ended new)

-- the lines of a file are served: a command that opens the file, as that of a script, and then its
-- lines
pub record RunsServe (file : List ℕ) (old : World) (ended : Status) (new : World) : Type 0 where
  pub said : Status
  pub opened : World
  pub opens : Promise (Some (Open file)) old said opened
  pub follows : ServesOn file old said opened ended new
