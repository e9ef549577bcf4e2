-- What `generate` prints and leaves: what the steps of its commands do, one after another, or a
-- part of it where a fault ends it.
use Rattle.std.specs.Prelude.{◌≡◌, ◌⊎◌, ℕ, true, false, Some, IsSomeAnd}
use Rattle.outside.specs.Files.{Files}
use Rattle.outside.specs.Sink.{appended, AppendsPrefix}
use Rattle.table_store.specs.Stands.{Stands}
use Rattle.table_store.specs.State.{State}
use Rattle.command_words.specs.Command.{Create, GeneratedTexts}
use Rattle.command_words.specs.Notes.{is_fault}
use Rattle.command_words.specs.declared.status.Status.{Status}
use Rattle.command_model.specs.Step.{After, line_of, status_after, step_of, text_of}
use Rattle.command_model.specs.Through.{generate_step, no_finding}
use Rattle.command_model.specs.World.{World}
use Rattle.pinot_run.specs.Generate.{Generates}
use Rattle.pinot_run.specs.Promise.{Promise}

-- ---- without a fault

-- what was printed and is left is what a step has
pub record FollowsStep (after : After) (ended : Status) (old new : World) : Type 0 where
  pub ended_so : ended ≡ status_after after.answer
  pub out : new.out.written ≡ appended (text_of after.answer) old.out.written
  pub notes : new.notes.written ≡ appended (line_of after.answer) old.notes.written
  pub stands : IsSomeAnd new.devices.depot.held (λ held. Stands held after.state)

-- so it is of rows that are generated over a store that stands for a state, where no fault ends it
abbrev pub GenerateSteps : Type 0
GenerateSteps = (rows : ℕ) (files kept : Files) (state : State) (old new : World) (ended : Status)
    → old.devices.inputs.held ≡ Some files → old.devices.depot.held ≡ Some kept
    → Stands kept state → Generates Promise rows old ended new → is_fault ended ≡ false
    → FollowsStep (generate_step state rows files) ended old new

-- ---- with a fault

-- the state after the first of the commands: where there was no table, the one that is made,
-- without a segment
abbrev pub table_alone : State → ℕ → Files → State
table_alone state rows files =
    (step_of state (Some (Create (GeneratedTexts rows))) files no_finding).state

-- of a state and what all steps do this is left: that state, that with the table alone, or the one
-- after all steps
abbrev pub IsOneOf : State → State → State → State → Type 0
IsOneOf state alone whole left = (left ≡ state) ⊎ (left ≡ alone) ⊎ (left ≡ whole)

-- nothing is replied; or the state is that after all steps, and the replies grew by a first part of
-- the line
pub record StopsShort (state alone : State) (whole : After) (old new : World) : Type 0 where
  pub left : State
  pub left_is : IsOneOf state alone whole.state left
  pub stands : IsSomeAnd new.devices.depot.held (λ held. Stands held left)
  pub given : (new.out.written ≡ old.out.written) ⊎ ((left ≡ whole.state)
      × AppendsPrefix (text_of whole.answer) old.out.written new.out.written)

-- so it is of rows that are generated over a store that stands for a state, where a fault ends it
abbrev pub GenerateStops : Type 0
GenerateStops = (rows : ℕ) (files kept : Files) (state : State) (old new : World) (ended : Status)
    → old.devices.inputs.held ≡ Some files → old.devices.depot.held ≡ Some kept
    → Stands kept state → Generates Promise rows old ended new → is_fault ended ≡ true
    → StopsShort state (table_alone state rows files) (generate_step state rows files) old new
