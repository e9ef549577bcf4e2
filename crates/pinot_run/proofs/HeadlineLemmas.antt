-- Any calls, one after another, lead on from a state that the store stands for.
use Rattle.std.proofs.Common.{◌≡◌, ◌∙◌, inl, inr, false, [], ◌∷◌, Option, Some, None, IfSome, IsSomeAnd, refl, sym, ap, subst}
use Rattle.std.specs.FinMap as map
use Rattle.outside.specs.Files.{Files, name_order}
use Rattle.outside.specs.Seen.{Seen}
use Rattle.outside.specs.Sink.{AppendsPrefix}
use Rattle.table_store.specs.Stands.{Stands}
use Rattle.table_store.specs.State.{HasTable, NoTable, State}
use Rattle.command_words.specs.Command.{Command, call_of}
use Rattle.command_words.specs.Notes.{is_fault}
use Rattle.command_words.specs.declared.status.Status.{Status}
use Rattle.command_words.specs.declared.status.Status.TheVariants as status
use Rattle.command_model.specs.Ran.{Acted, IsStepped}
use Rattle.command_model.specs.Step.{After, Answer, HasStep, step_of, text_of}
use Rattle.command_model.specs.Profile.{profile}
use Rattle.command_model.specs.World.{Devices, Stage, World, beside}
use Rattle.pinot_run.specs.Headline.{FromEmpty, Headline, LeavesOf, Moves, Proceeds, ReadsOf}
use Rattle.pinot_run.specs.Promise.{IsAnswered, IsGiven, IsUndone, Leaves, Promise}
use Rattle.pinot_run.specs.Script.{Does}
use Rattle.pinot_run.proofs.LawLemmas.{at, same_held, told_one}
use Rattle.pinot_run.proofs.StateReads.{segments_read}

pub if_told : (o : Option Files) (P : Files → Type 0) → ((files : Files) → o ≡ Some files → P files) → IfSome o P
if_told None P f = tt
if_told (Some files) P f = f files refl

module _ (command : Option Command) (files kept : Files) (state : State) (old new : World)
    (inputs : old.devices.inputs.held ≡ Some files) (stored : old.devices.depot.held ≡ Some kept) (stands : Stands kept state) where
  abbrev StandFor : State → Type 0
  StandFor next = IsSomeAnd new.devices.depot.held (λ held. Stands held next)

  -- a state that the command leaves, and that the store then stands for
  abbrev Next : Status → Type 0
  Next ended = (next : State) × LeavesOf (HasStep state command files) (beside state old) ended (beside next new) × StandFor next

  undone_stands : IsUndone old new → StandFor state
  undone_stands undone = subst (λ (o : Option Files). IsSomeAnd o (λ held. Stands held state)) (sym (undone.stored ∙ stored)) stands

  -- nothing was done to the state either
  undone : IsUndone old new → IsUndone (beside state old) (beside state new)
  undone u = record { kept = refl; stored = u.stored; out = u.out }

  stepped : (answer : Answer) → Acted command old.devices new.devices answer → HasStep state command files (λ after. IsStepped after answer new.devices.depot.held)
  stepped answer acted = at old.devices.inputs.held old.devices.depot.held (λ s fs. HasStep s command fs (λ after. IsStepped after answer new.devices.depot.held)) state files kept inputs stored stands acted.step

  -- all of the step
  abbrev Whole : Status → After → Type 0
  Whole ended after = IsGiven after.answer ended (beside state old) (beside after.state new) × StandFor after.state

  answered : (ended : Status) → IsAnswered command old ended new → HasStep state command files (Whole ended)
  answered ended is =
      let step = stepped is.answer is.acted in
      let after : After = step_of state command files step.0 in
      let given : IsGiven after.answer ended old new = subst (λ a. IsGiven a ended old new) step.2.answers is.given in
      (step.0, step.1, (record { ended_so = given.ended_so; out = given.out; notes = given.notes }, step.2.stands))

  -- as the state that is next
  abbrev NextBy : Status → Type 0
  NextBy ended = (next : State) × HasStep state command files (λ after. IsGiven after.answer ended (beside state old) (beside next new) × (next ≡ after.state)) × StandFor next

  next_by : (ended : Status) → IsAnswered command old ended new → NextBy ended
  next_by ended is = let w = answered ended is in ((step_of state command files w.0).state, (w.0, w.1, (w.2.0, refl)), w.2.1)

  next_stands : (ended : Status) → Leaves command old ended new → Next ended
  next_stands status.ReadFault l = (state, (l.1, undone l.2), undone_stands l.2)
  next_stands status.WriteFault (inl l) = (state, inl (l.0, undone l.1), undone_stands l.1)
  next_stands status.WriteFault (inr cut) =
      let step = stepped cut.answer cut.acted in
      let after : After = step_of state command files step.0 in
      let prefix : AppendsPrefix (text_of after.answer) old.out.written new.out.written = subst (λ a. AppendsPrefix (text_of a) old.out.written new.out.written) step.2.answers cut.prefix in
      (after.state, inr (step.0, step.1, (record { failed = cut.failed; prefix = prefix }, refl)), step.2.stands)
  next_stands status.NoMemory l = (state, undone l, undone_stands l)
  next_stands status.Done l = next_by status.Done l
  next_stands status.BadWords l = next_by status.BadWords l
  next_stands status.NoInput l = next_by status.NoInput l
  next_stands status.BadSchema l = next_by status.BadSchema l
  next_stands status.BadSettings l = next_by status.BadSettings l
  next_stands status.TableExists l = next_by status.TableExists l
  next_stands status.NoTable l = next_by status.NoTable l
  next_stands status.BadCsv l = next_by status.BadCsv l
  next_stands status.TooLarge l = next_by status.TooLarge l
  next_stands status.NameTaken l = next_by status.NameTaken l
  next_stands status.NoSegment l = next_by status.NoSegment l
  next_stands status.BadQuery l = next_by status.BadQuery l
  next_stands status.NotASegment l = next_by status.NotASegment l
  next_stands status.TooManyGroups l = next_by status.TooManyGroups l
  next_stands status.CursorTaken l = next_by status.CursorTaken l
  next_stands status.NoCursor l = next_by status.NoCursor l

-- a command that ended without a fault gave all of its step
pub given_of : (Has : (After → Type 0) → Type 0) (old : Stage State) (ended : Status) (new : Stage State) → is_fault ended ≡ false → LeavesOf Has old ended new → Has (λ after. IsGiven after.answer ended old new × (new.kept ≡ after.state))
given_of Has old status.ReadFault new fine l = absurd cc
given_of Has old status.WriteFault new fine l = absurd cc
given_of Has old status.NoMemory new fine l = absurd cc
given_of Has old status.Done new fine l = l
given_of Has old status.BadWords new fine l = l
given_of Has old status.NoInput new fine l = l
given_of Has old status.BadSchema new fine l = l
given_of Has old status.BadSettings new fine l = l
given_of Has old status.TableExists new fine l = l
given_of Has old status.NoTable new fine l = l
given_of Has old status.BadCsv new fine l = l
given_of Has old status.TooLarge new fine l = l
given_of Has old status.NameTaken new fine l = l
given_of Has old status.NoSegment new fine l = l
given_of Has old status.BadQuery new fine l = l
given_of Has old status.NotASegment new fine l = l
given_of Has old status.TooManyGroups new fine l = l
given_of Has old status.CursorTaken new fine l = l
given_of Has old status.NoCursor new fine l = l

reads_of : (kept : Files) (state : State) (command : Option Command) (old : World) (ended : Status) (new : World) → old.devices.depot.held ≡ Some kept → Stands kept state → Promise command old ended new → ReadsOf state command ended old.devices new.devices
reads_of kept NoTable command old ended new told stands p = tt
reads_of kept (HasTable texts segments) command old ended new told stands p = λ table accepted. segments_read command old new ended p kept texts segments table told stands accepted

-- ---- from one state to the next

-- the input files are told, and the stored ones stand for a state
pub record StandsIn (files : Files) (now : World) (state : State) : Type 0 where
  pub inputs : now.devices.inputs.held ≡ Some files
  pub kept : Files
  pub stored : now.devices.depot.held ≡ Some kept
  pub stands : Stands kept state

pub stands_still : (files : Files) (old new : World) (state : State) → new.devices ≡ old.devices → StandsIn files old state → StandsIn files new state
stands_still files old new state same i = record {
  inputs = ap (λ (d : Devices). d.inputs.held) same ∙ i.inputs;
  kept = i.kept;
  stored = ap (λ (d : Devices). d.depot.held) same ∙ i.stored;
  stands = i.stands;
}

-- a command that kept its promise leads on
pub moves_on : (files : Files) (command : Option Command) (old : World) (state : State) (ended : Status) (new : World) → StandsIn files old state → Promise command old ended new
    → (next : State) × Moves files command (beside state old) ended (beside next new) × StandsIn files new next
moves_on files command old state ended new i p =
    let (next, leaves, stood) = next_stands command files i.kept state old new i.inputs i.stored i.stands ended p.leaves in
    let (held, is, stands) = told_one new.devices.depot.held (λ k. Stands k next) stood in (
      next,
      record {
        leaves = leaves;
        stands = stood;
        noted = p.notes;
        counted = record { inputs = p.counted.inputs; depot_reads = p.counted.depot_reads; depot_writes = p.counted.depot_writes; out = p.counted.out; out_later = p.counted.out_later };
        reads = reads_of i.kept state command old ended new i.stored i.stands p;
      },
      record { inputs = same_held (profile command).files old.devices.inputs new.devices.inputs p.touched.inputs ∙ i.inputs; kept = held; stored = is; stands = stands },
    )
