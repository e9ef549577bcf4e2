-- Commands that are done one after another, up to the first that has no reply.
use Rattle.std.specs.Prelude.{◌≡◌, ◌⊎◌, ℕ, List, [], ◌∷◌, Option, Some, None, Result, Ok, Err}
use Rattle.outside.specs.Files.{Files}
use Rattle.table_store.specs.Images.{Found}
use Rattle.table_store.specs.State.{State}
use Rattle.command_words.specs.Command.{Command}
use Rattle.command_words.specs.declared.fault.Fault.TheVariants as fault
use Rattle.command_words.specs.declared.note.Note.{Note}
use Rattle.command_words.specs.declared.stop.Stop.{Stop}
use Rattle.command_words.specs.declared.stop.Stop.TheVariants as stop
use Rattle.command_model.specs.Generated.{generate_commands, generated_text}
use Rattle.command_model.specs.Ran.{Ran}
use Rattle.command_model.specs.Step.{After, Answer, Refuses, Replies, step_of}
use Rattle.command_model.specs.World.{Devices}

-- ---- over a state

-- what commands leave: the replies up to the first refusal, if there is one, and the state
pub record Chain : Type 0 where
  pub texts : List (List ℕ)
  pub refusal : Option Note
  pub state : State

-- a command came before these
abbrev pub after_answer : Answer → State → Chain → Chain
after_answer (Replies text) state rest = record {
  texts = text ∷ rest.texts;
  refusal = rest.refusal;
  state = rest.state;
}
after_answer (Refuses line) state rest = record { texts = []; refusal = Some line; state = state }

-- none of these commands checks a file, so that it does not matter what would be found
abbrev pub no_finding : Found
no_finding = Ok []

-- what commands do to a store, one after another, each by its step
abbrev pub through : State → List (Option Command) → Files → Chain
through state [] inputs = record { texts = []; refusal = None; state = state }
through state (command ∷ commands) inputs =
    after_answer (step_of state command inputs no_finding).answer
    (step_of state command inputs no_finding).state
    (through (step_of state command inputs no_finding).state commands inputs)

-- the line for so many rows where each has a reply, or the refusal
abbrev pub chain_answer : ℕ → List (List ℕ) → Option Note → Answer
chain_answer rows texts None = Replies (generated_text rows texts)
chain_answer rows texts (Some line) = Refuses line

-- what so many rows leave, by what their commands leave
abbrev pub chain_after : ℕ → Chain → After
chain_after rows chain = record {
  answer = chain_answer rows chain.texts chain.refusal;
  state = chain.state;
}

-- what `generate` does to a store: the steps of its commands, one after another
abbrev pub generate_step : State → ℕ → Files → After
generate_step state rows inputs = chain_after rows
    (through state (generate_commands rows) inputs)

-- ---- over any store

-- commands were done one after another; these are their replies, and why the last has none
abbrev pub RanThrough : List (Option Command) → Devices → Devices → List (List ℕ) → Option Stop
    → Type 0
RanThrough [] old new texts why = (new ≡ old) × (texts ≡ []) × (why ≡ None)
RanThrough (command ∷ commands) old new texts why =
    ((s : Stop) × Ran command old new (Err s) × (texts ≡ []) × (why ≡ Some s))
    ⊎ ((text : List ℕ) × (mid : Devices) × (more : List (List ℕ)) × Ran command old mid (Ok text)
    × RanThrough commands mid new more why × (texts ≡ text ∷ more))

-- the line for so many rows, unless there is no memory for it; or why the last command has no reply
abbrev pub EndsAs : ℕ → List (List ℕ) → Option Stop → Result (List ℕ) Stop → Type 0
EndsAs rows texts None result = (result ≡ Ok (generated_text rows texts))
    ⊎ (result ≡ Err (stop.Fault fault.Memory))
EndsAs rows texts (Some why) result = result ≡ Err why

-- so many rows were generated: the commands were done, and the last stopped or all had replies
pub record RanGenerate (rows : ℕ) (old new : Devices) (result : Result (List ℕ) Stop) : Type 0
  where
    pub texts : List (List ℕ)
    pub why : Option Stop
    pub ran : RanThrough (generate_commands rows) old new texts why
    pub ends : EndsAs rows texts why result
