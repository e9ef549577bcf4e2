-- What words that may not write leave.
use Rattle.std.specs.Prelude.{◌≡◌, ℕ, List, false}
use Rattle.outside.specs.Files.{Files}
use Rattle.outside.specs.Seen.{Seen}
use Rattle.table_store.specs.Images.{Found}
use Rattle.table_store.specs.State.{State}
use Rattle.command_words.specs.Command.{command_of, may_write}
use Rattle.command_model.specs.Step.{step}
use Rattle.command_model.specs.Touched.{Touched}
use Rattle.command_model.specs.World.{Devices}

-- the step of such words leaves each state as it is
abbrev pub LeavesState : Type 0
LeavesState = (state : State) (words : List (List ℕ)) (inputs : Files) (found : Found)
    → may_write words ≡ false → (step state words inputs found).state ≡ state

-- a depot holds what it held, and no call that writes has failed
pub record Unwritten (old new : Seen) : Type 0 where
  pub held : new.held ≡ old.held
  pub parts : new.parts ≡ old.parts
  pub writes : new.write_faults ≡ old.write_faults

-- what such words touch of a store on any devices is none of this
abbrev pub LeavesDepot : Type 0
LeavesDepot = (words : List (List ℕ)) (old new : Devices) → may_write words ≡ false
    → Touched (command_of words) old new → Unwritten old.depot new.depot
