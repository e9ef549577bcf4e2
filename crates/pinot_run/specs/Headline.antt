-- What any calls do to a store, one after another, and print.
use Rattle.std.specs.Prelude.{◌≡◌, ◌≢◌, ◌⊎◌, ℕ, false, List, [], ◌∷◌, ◌++◌, Option, Some, Ok, IfSome, IsSomeAnd}
use Rattle.std.specs.FinMap as tree
use Rattle.outside.specs.Counts.{Rose}
use Rattle.outside.specs.Files.{Files}
use Rattle.outside.specs.Seen.{Seen}
use Rattle.outside.specs.Sink.{AppendsPrefix}
use Rattle.values.specs.declared.value.Value.{Value}
use Rattle.table_schema.specs.declared.table.Table.{Table}
use Rattle.sql_reply.specs.SqlReply.{sql_reply}
use Rattle.table_store.specs.Accepted.{IsAccepted}
use Rattle.table_store.specs.Stands.{Stands, segment_of}
use Rattle.table_store.specs.State.{HasTable, NoTable, Segment, Segments, State, Texts}
use Rattle.command_words.specs.Command.{Attach, Build, Command, Drop, RowSource, call_of}
use Rattle.command_words.specs.declared.about.About.TheVariants.{Rows, RowsAndPlans}
use Rattle.command_words.specs.declared.status.Status.{Status}
use Rattle.command_words.specs.declared.status.Status.TheVariants as status
use Rattle.segment_check.specs.Checked.{IsImageOf}
use Rattle.command_model.specs.Attach.{AsksCheck}
use Rattle.command_model.specs.Build.{new_rows}
use Rattle.command_model.specs.Queried.{all_rows}
use Rattle.command_model.specs.Step.{After, HasStep, Replies, sql_answered, query_answer, text_of}
use Rattle.command_model.specs.World.{Devices, Stage, beside}
use Rattle.pinot_run.specs.Calls.{AreCalls, Call}
use Rattle.pinot_run.specs.Laws.{ReadsState, is_done}
use Rattle.pinot_run.specs.Promise.{Counted, IsGiven, IsUndone, Noted}
pub use Rattle.pinot_run.specs.Moves.{IsCutShort, LeavesOf, Moves, ReadsFailed, ReadsOf}
use Rattle.pinot_run.specs.Script.{Does}
use Rattle.pinot_run.specs.ServeLaws.{MovesServed}

-- The headline:
--
--     From an empty folder, after any commands, each query prints, unless memory runs out or a
--     device fails, exactly what filtering, grouping and folding the rows ingested and not dropped
--     would print; each segment not already excluded by its values is answered from the tree
--     exactly when the written rule makes it eligible, and then reads no raw document and at most
--     the stated product of star documents.
--
-- from an empty folder: `FromEmpty`
-- after any commands: `Proceeds`, over any list of calls, each one command, a script of them, or
-- `generate`, which is four
-- each query prints: `LeavesOf`, where the answer of the step is given whole
-- unless memory runs out or a device fails: `LeavesOf`, its cases of these three statuses
-- exactly what filtering, grouping and folding would print: `Answers`, over all rows of the state
-- the rows ingested and not dropped: `RowsAreIngested`
-- each segment is answered so, and then reads: `ReadsOf`, by the plan of its rows

-- ---- calls

-- each call leads on from the state to which the one before led, a script and `serve` by their
-- lines; of a call whose input files are not told nothing is said, nor of those after it
abbrev pub Proceeds : State → List Call → Type 0
Proceeds state [] = Unit {0}
Proceeds state (call ∷ calls) = IfSome call.old.devices.inputs.held (λ files. (next : State)
    × Does (Moves files) (MovesServed files) (call_of call.words) (beside state call.old)
    call.ended (beside next call.new) × Proceeds next calls)

-- from a store that stands for a state on, any calls proceed
abbrev pub Headline : Type 0
Headline = (files : Files) (state : State) (depot : Seen) (calls : List Call)
    → depot.held ≡ Some files → Stands files state → AreCalls depot calls → Proceeds state calls

-- from an empty folder on, any calls proceed from there being no table
abbrev pub FromEmpty : Type 0
FromEmpty = (depot : Seen) (calls : List Call) → depot.held ≡ Some tree.empty
    → AreCalls depot calls → Proceeds NoTable calls

-- ---- what a query prints

-- over a state with a table the answer to `query` is the reply over the rows of all its segments,
-- by their names, and what `stats` prints begins with it
pub record Answers (texts : Texts) (segments : Segments) (table : Table) (sql : List ℕ)
    : Type 0 where
  pub queried : query_answer Rows (HasTable texts segments) sql
      ≡ sql_answered (sql_reply table false sql (all_rows segments))
  pub stated : (text : List ℕ) → query_answer RowsAndPlans (HasTable texts segments) sql
      ≡ Replies text → (reply more : List ℕ)
      × (sql_reply table false sql (all_rows segments) ≡ Ok reply)
      × (text ≡ reply ++ (10 ∷ more))

-- so it is over each state that a store may stand for
abbrev pub AnswersRows : Type 0
AnswersRows = (texts : Texts) (segments : Segments) (table : Table) (sql : List ℕ)
    → IsAccepted texts table → Answers texts segments table sql

-- ---- the rows ingested

-- a command on the way, of a call or of a line of a script: over these input files it led from one
-- state to another
pub record Move : Type 0 where
  pub command : Option Command
  pub files : Files
  pub ended : Status
  pub old : Stage State
  pub new : Stage State

-- moves one after another, the latest first, lead from there being no table to this state
abbrev pub Reaches : List Move → State → Type 0
Reaches [] state = state ≡ NoTable
Reaches (move ∷ earlier) state = (move.new.kept ≡ state)
    × Moves move.files move.command move.old move.ended move.new
    × Reaches earlier move.old.kept

-- a command is a `build` of this name, and these are its rows
pub record IsBuildOf (command : Option Command) (files : Files) (segments : Segments)
    (table : Table) (name : List ℕ) (rows : List (List Value)) : Type 0 where
  pub from : RowSource
  pub command_is : command ≡ Some (Build name from)
  pub rows_are : new_rows table segments name from files ≡ Ok rows

-- a command is an `attach` of this name, and its file is the image of these rows
pub record IsAttachOf (command : Option Command) (files : Files) (texts : Texts)
    (segments : Segments) (table : Table) (name : List ℕ) (rows : List (List Value)) : Type 0 where
  pub file : List ℕ
  pub command_is : command ≡ Some (Attach name file)
  pub bytes : List ℕ
  pub asks : AsksCheck texts segments name file files table bytes
  pub is_image : IsImageOf table name bytes rows

-- it is one of both
abbrev pub IsSource : Option Command → Files → Texts → Segments → Table → List ℕ
    → List (List Value) → Type 0
IsSource command files texts segments table name rows =
    IsBuildOf command files segments table name rows
    ⊎ IsAttachOf command files texts segments table name rows

-- a `build` or an `attach` of this name took effect, and these are its rows; the segment of
-- `generate` is built so
pub record Ingests (move : Move) (name : List ℕ) (rows : List (List Value)) : Type 0 where
  pub took_effect : move.new.kept ≢ move.old.kept
  pub texts : Texts
  pub segments : Segments
  pub from_is : move.old.kept ≡ HasTable texts segments
  pub table : Table
  pub accepted : IsAccepted texts table
  pub source : IsSource move.command move.files texts segments table name rows

-- whether a command is on the segment of a name: it makes it or drops it
abbrev pub IsOn : List ℕ → Option Command → Type 0
IsOn name command = ((from : RowSource) × (command ≡ Some (Build name from)))
    ⊎ (((file : List ℕ) × (command ≡ Some (Attach name file)))
    ⊎ (command ≡ Some (Drop name)))

-- of the moves on a name that took effect the last is a `build` or an `attach`, of these rows
abbrev pub IsIngested : List Move → List ℕ → List (List Value) → Type 0
IsIngested [] name rows = ⊥
IsIngested (move ∷ earlier) name rows = Ingests move name rows
    ⊎ ((IsOn name move.command → move.new.kept ≡ move.old.kept)
    × IsIngested earlier name rows)

-- the segment of a name is there just where rows were ingested under it, and has these rows, in the
-- order of a segment
pub record IsOfMoves (moves : List Move) (table : Table) (segments : Segments) (name : List ℕ)
    : Type 0 where
  pub there : (rows : List (List Value)) → IsIngested moves name rows
      → tree.get segments name ≡ Some (segment_of table rows)
  pub came : (segment : Segment) → tree.get segments name ≡ Some segment
      → (rows : List (List Value)) × IsIngested moves name rows
      × (segment ≡ segment_of table rows)

-- so it is in each state on the way that has a table
abbrev pub RowsAreIngested : Type 0
RowsAreIngested = (moves : List Move) (texts : Texts) (segments : Segments) (table : Table)
    → Reaches moves (HasTable texts segments) → IsAccepted texts table → (name : List ℕ)
    → IsOfMoves moves table segments name
