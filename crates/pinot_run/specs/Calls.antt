-- Calls of the top call, one after another, over one store.
use Rattle.std.specs.Prelude.{◌≡◌, ℕ, List, [], ◌∷◌}
use Rattle.outside.specs.Seen.{Seen}
use Rattle.command_words.specs.Command.{call_of}
use Rattle.command_words.specs.declared.status.Status.{Status}
use Rattle.command_model.specs.World.{World}
use Rattle.pinot_run.specs.Promise.{Promise}
use Rattle.pinot_run.specs.Script.{Does}
use Rattle.pinot_run.specs.Serve.{RunsServe}

-- one call: its words, how it ended, and the devices and streams before and after it; input files
-- and streams are its own
pub record Call : Type 0 where
  pub words : List (List ℕ)
  pub ended : Status
  pub old : World
  pub new : World

-- each call keeps its promise, a script that of each of its lines, and `serve` its own, and finds
-- the store as the one before left it
abbrev pub AreCalls : Seen → List Call → Type 0
AreCalls depot [] = Unit {0}
AreCalls depot (call ∷ calls) = (call.old.devices.depot ≡ depot)
    × Does Promise RunsServe (call_of call.words) call.old call.ended call.new
    × AreCalls call.new.devices.depot calls
