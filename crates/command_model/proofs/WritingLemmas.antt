-- Words that may not write.
use Rattle.std.proofs.Common.{◌≡◌, ◌∷◌, [], ℕ, Bool, List, Option, None, Some, cond, refl, ap, true, false}
use Rattle.std.specs.Prelude.{codes}
use Rattle.std.specs.Str.{bytes_eq}
use Rattle.outside.specs.Files.{Files}
use Rattle.outside.specs.Seen.{Seen}
use Rattle.table_store.specs.State.{State}
use Rattle.command_words.specs.Command.{Ask, Attach, Build, Command, Create, Drop, Listing, Look, Open, Scan, Script, Serve, asks_write, command_of, may_write, request_of, rows_asked, unless_rows, writes}
use Rattle.command_model.specs.Profile.{profile}
use Rattle.table_store.specs.Images.{Found}
use Rattle.command_model.specs.Step.{step_of}
use Rattle.command_model.specs.Touched.{Keeps}
use Rattle.command_model.specs.Writing.{LeavesDepot, LeavesState, Unwritten}

-- the step of a command that may not write leaves the state as it is
step_leaves : (state : State) (command : Option Command) (inputs : Files) (found : Found) → writes command ≡ false → (step_of state command inputs found).state ≡ state
step_leaves state None inputs found quiet = refl
step_leaves state (Some (Scan file sql)) inputs found quiet = refl
step_leaves state (Some (Create texts)) inputs found quiet = cc
step_leaves state (Some (Build name rows)) inputs found quiet = cc
step_leaves state (Some (Attach name file)) inputs found quiet = cc
step_leaves state (Some (Drop name)) inputs found quiet = cc
step_leaves state (Some (Look aim name)) inputs found quiet = refl
step_leaves state (Some Listing) inputs found quiet = refl
step_leaves state (Some (Ask about sql)) inputs found quiet = refl
step_leaves state (Some (Open file)) inputs found quiet = refl

-- words of which no write is said spell no command that writes
by_rows : (asked : Option ℕ) (command : Option Command) → asks_write (unless_rows asked command) ≡ false → writes command ≡ false
by_rows None command quiet = quiet
by_rows (Some rows) command quiet = absurd cc

by_test : (script serve : Bool) (words : List (List ℕ)) (file : List ℕ) → asks_write (cond script (Script file) (cond serve (Serve file) (request_of words))) ≡ false → writes (command_of words) ≡ false
by_test true serve words file quiet = absurd cc
by_test false true words file quiet = absurd cc
by_test false false words file quiet = by_rows (rows_asked words) (command_of words) quiet

quiet_words : (words : List (List ℕ)) → may_write words ≡ false → writes (command_of words) ≡ false
quiet_words [] quiet = quiet
quiet_words (verb ∷ []) quiet = quiet
quiet_words (verb ∷ file ∷ []) quiet = by_test (bytes_eq verb (codes "script")) (bytes_eq verb (codes "serve")) (verb ∷ file ∷ []) file quiet
quiet_words (verb ∷ file ∷ more ∷ rest) quiet = quiet

pub leaves_state : LeavesState
leaves_state state words inputs found quiet = step_leaves state (command_of words) inputs found (quiet_words words quiet)

-- nor is its row one that writes
keeps_depot : (command : Option Command) (old new : Seen) → writes command ≡ false → Keeps (profile command).store old new → Unwritten old new
keeps_depot None old new quiet kept = record { held = ap (λ s. s.held) kept; parts = ap (λ s. s.parts) kept; writes = ap (λ s. s.write_faults) kept }
keeps_depot (Some (Scan file sql)) old new quiet kept = record { held = ap (λ s. s.held) kept; parts = ap (λ s. s.parts) kept; writes = ap (λ s. s.write_faults) kept }
keeps_depot (Some (Create texts)) old new quiet kept = cc
keeps_depot (Some (Build name rows)) old new quiet kept = cc
keeps_depot (Some (Attach name file)) old new quiet kept = cc
keeps_depot (Some (Drop name)) old new quiet kept = cc
keeps_depot (Some (Look aim name)) old new quiet kept = record { held = kept.held; parts = kept.parts; writes = kept.writes }
keeps_depot (Some Listing) old new quiet kept = record { held = kept.held; parts = kept.parts; writes = kept.writes }
keeps_depot (Some (Ask about sql)) old new quiet kept = record { held = kept.held; parts = kept.parts; writes = kept.writes }
keeps_depot (Some (Open file)) old new quiet kept = record { held = ap (λ s. s.held) kept; parts = ap (λ s. s.parts) kept; writes = ap (λ s. s.write_faults) kept }

pub leaves_depot : LeavesDepot
leaves_depot words old new quiet touched = keeps_depot (command_of words) old.depot new.depot (quiet_words words quiet) touched.depot
