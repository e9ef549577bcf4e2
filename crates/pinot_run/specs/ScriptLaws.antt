-- What a script prints and leaves where it ends well.
use Rattle.std.specs.Prelude.{◌≡◌, ◌++◌, ℕ, List, [], ◌∷◌, Some, IsSomeAnd}
use Rattle.std.specs.FinMap as tree
use Rattle.outside.specs.Files.{Files}
use Rattle.outside.specs.Sink.{appended}
use Rattle.table_store.specs.Stands.{Stands}
use Rattle.table_store.specs.State.{State}
use Rattle.command_words.specs.Command.{Generate, One, Request, Script, Serve}
use Rattle.command_words.specs.declared.status.Status.TheVariants as status
use Rattle.command_model.specs.Step.{After, HasStep, status_after, text_of}
use Rattle.command_model.specs.Through.{generate_step}
use Rattle.command_model.specs.World.{World}
use Rattle.pinot_run.specs.Promise.{Promise}
use Rattle.pinot_run.specs.Script.{RunsScript, mark_of}
use Rattle.pinot_run.specs.Text.{line_request, lines_of}

-- what is left where this is asked for of a state: by the step of a command, or by those of the
-- commands that generate rows
abbrev pub IsStepOf : State → Request → Files → After → Type 0
IsStepOf state (One command) files after = HasStep state command files (λ step. after ≡ step)
IsStepOf state (Generate rows) files after = after ≡ generate_step state rows files
IsStepOf state (Script file) files after = ⊥
IsStepOf state (Serve file) files after = ⊥

-- what lines print from a state on, and the state that they leave: the reply of each by its step,
-- and its mark, one after another
abbrev pub Prints : Files → State → List (List ℕ) → List ℕ → State → Type 0
Prints files state [] text left = (text ≡ []) × (left ≡ state)
Prints files state (line ∷ lines) text left = (after : After)
    × IsStepOf state (line_request line) files after × (more : List ℕ)
    × (text ≡ text_of after.answer ++ (mark_of (status_after after.answer) ++ more))
    × Prints files after.state lines more left

-- a script that ends well has run every line of its file: it has printed the reply and the mark of
-- each, in their order, and left the state of their steps, one after another
pub record PrintsAll (files : Files) (state : State) (text : List ℕ) (old new : World) : Type 0
  where
    pub printed : List ℕ
    pub left : State
    pub prints : Prints files state (lines_of text) printed left
    pub out : new.out.written ≡ appended printed old.out.written
    pub stands : IsSomeAnd new.devices.depot.held (λ held. Stands held left)

-- so it is of each script that ends well over a store that stands for a state
abbrev pub DonePrints : Type 0
DonePrints = (files kept : Files) (state : State) (file text : List ℕ) (old new : World)
    → old.devices.inputs.held ≡ Some files → old.devices.depot.held ≡ Some kept
    → Stands kept state → tree.get files file ≡ Some text
    → RunsScript Promise file old status.Done new → PrintsAll files state text old new
