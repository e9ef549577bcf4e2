-- What a fault may leave of `generate`: the state before, the table alone, or all of it.
use Rattle.std.proofs.Common.{◌≡◌, ◌⊎◌, ◌∙◌, ◌<◌, ◌-◌, ◌^◌, inl, inr, ℕ, true, false, List, [], ◌∷◌, Option, Some, refl, sym, ap, subst, arith, lit<}
use Rattle.outside.specs.Counts.{Rose}
use Rattle.outside.specs.Files.{Files}
use Rattle.outside.specs.Sink.{AppendsPrefix}
use Rattle.table_store.specs.Images.{Found}
use Rattle.table_store.specs.Stands.{Stands}
use Rattle.table_store.specs.State.{State}
use Rattle.command_words.specs.Command.{Ask, Build, Command, Create, GeneratedRows, GeneratedTexts}
use Rattle.command_words.specs.Notes.{is_fault}
use Rattle.command_words.specs.declared.status.Status.{Status}
use Rattle.command_words.specs.declared.status.Status.TheVariants as status
use Rattle.command_words.specs.declared.about.About.TheVariants.{RowsAndPlans}
use Rattle.command_model.specs.Generated.{generate_commands, generated_name, scan_query, tree_query}
use Rattle.command_model.specs.Step.{After, Answer, HasStep, Refuses, Replies, status_after, step_of, text_of}
use Rattle.command_model.specs.Through.{Chain, after_answer, generate_step, no_finding, through}
use Rattle.command_model.specs.World.{Devices, Stage, beside}
use Rattle.pinot_run.specs.Generate.{Generates, RunsThrough, aside}
use Rattle.pinot_run.specs.GenerateLaws.{GenerateStops, IsOneOf, table_alone}
use Rattle.pinot_run.specs.Headline.{Moves}
use Rattle.pinot_run.specs.Promise.{Promise}
use Rattle.pinot_run.proofs.GenerateSteps.{line_text, some_and, whole_left}
use Rattle.pinot_run.proofs.HeadlineLemmas.{StandsIn, given_of, moves_on, stands_still}
use Rattle.pinot_run.proofs.ScriptLemmas.{line_not_done}
use Rattle.pinot_run.proofs.ScriptLifts.{generates_lift}

-- ---- a command aside

-- a stream of its own never fails
not_risen : ¬ Rose 0 0
not_risen (inl less) = omega (arith, less)
not_risen (inr last) =
    let most : 0 < 2 ^ 64 - 1 = lit< tt in
    let none : 0 < 0 = subst (λ n. 0 < n) (sym last) most in
    omega (arith, none)

-- a command that ends in a fault leaves the state
fault_kept : (files : Files) (command : Option Command) (old new : Devices) (kept left : State) (said : Status) (line : List ℕ) → is_fault said ≡ true → Moves files command (aside old kept [] []) said (aside new left [] line) → left ≡ kept
fault_kept files command old new kept left status.ReadFault line fault m = m.leaves.1.kept
fault_kept files command old new kept left status.WriteFault line fault m = elim m.leaves [
  | inl (rose, undone) ↦ undone.kept
  | inr has ↦ elim has.2.0.failed [ inl rose ↦ absurd (not_risen rose) | inr rose ↦ absurd (not_risen rose) ]
]
fault_kept files command old new kept left status.NoMemory line fault m = m.leaves.kept
fault_kept files command old new kept left status.Done line fault m = absurd cc
fault_kept files command old new kept left status.BadWords line fault m = absurd cc
fault_kept files command old new kept left status.NoInput line fault m = absurd cc
fault_kept files command old new kept left status.BadSchema line fault m = absurd cc
fault_kept files command old new kept left status.BadSettings line fault m = absurd cc
fault_kept files command old new kept left status.TableExists line fault m = absurd cc
fault_kept files command old new kept left status.NoTable line fault m = absurd cc
fault_kept files command old new kept left status.BadCsv line fault m = absurd cc
fault_kept files command old new kept left status.TooLarge line fault m = absurd cc
fault_kept files command old new kept left status.NameTaken line fault m = absurd cc
fault_kept files command old new kept left status.NoSegment line fault m = absurd cc
fault_kept files command old new kept left status.BadQuery line fault m = absurd cc
fault_kept files command old new kept left status.NotASegment line fault m = absurd cc
fault_kept files command old new kept left status.TooManyGroups line fault m = absurd cc
fault_kept files command old new kept left status.CursorTaken line fault m = absurd cc
fault_kept files command old new kept left status.NoCursor line fault m = absurd cc

-- one that is done has a reply, and leaves the state of its step
record IsDone (state : State) (after : After) : Type 0 where
  left : state ≡ after.state
  replied : status.Done ≡ status_after after.answer

done_left : (files : Files) (command : Option Command) (old new : Devices) (kept left : State) (text : List ℕ) → Moves files command (aside old kept [] []) status.Done (aside new left text []) → (found : Found) × IsDone left (step_of kept command files found)
done_left files command old new kept left text m =
    let h = given_of (HasStep kept command files) (aside old kept [] []) status.Done (aside new left text []) refl m.leaves in
    (h.0, record { left = h.2.1; replied = h.2.0.ended_so })

-- a query leaves the state
pub done_kept : (files : Files) (sql : List ℕ) (old new : Devices) (kept left : State) (text : List ℕ) → Moves files (Some (Ask RowsAndPlans sql)) (aside old kept [] []) status.Done (aside new left text []) → left ≡ kept
done_kept files sql old new kept left text m = (done_left files (Some (Ask RowsAndPlans sql)) old new kept left text m).1.left

-- ---- the state after all

-- after a reply it is that of the rest
on_reply : (answer : Answer) (state : State) (rest : Chain) → status.Done ≡ status_after answer → (after_answer answer state rest).state ≡ rest.state
on_reply (Replies text) state rest done = refl
on_reply (Refuses line) state rest done = absurd (line_not_done line (sym done))

-- and where the rest leaves it, it stays
stays_so : (answer : Answer) (state : State) (rest : Chain) → rest.state ≡ state → (after_answer answer state rest).state ≡ state
stays_so (Replies text) state rest same = same
stays_so (Refuses line) state rest same = refl

-- the queries leave it
asked_state : (state : State) (files : Files) → (through state (Some (Ask RowsAndPlans tree_query) ∷ Some (Ask RowsAndPlans scan_query) ∷ []) files).state ≡ state
asked_state state files =
    let last : Chain = through state (Some (Ask RowsAndPlans scan_query) ∷ []) files in
    let none : Chain = through state [] files in
    stays_so (step_of state (Some (Ask RowsAndPlans tree_query)) files no_finding).answer state last (stays_so (step_of state (Some (Ask RowsAndPlans scan_query)) files no_finding).answer state none refl)

-- ---- where the commands stopped

module _ (files : Files) (rows : ℕ) (state : State) where
  abbrev Make : Option Command
  Make = Some (Create (GeneratedTexts rows))

  abbrev Fill : Option Command
  Fill = Some (Build generated_name (GeneratedRows rows))

  abbrev Tree : Option Command
  Tree = Some (Ask RowsAndPlans tree_query)

  abbrev Scan : Option Command
  Scan = Some (Ask RowsAndPlans scan_query)

  abbrev Alone : State
  Alone = table_alone state rows files

  abbrev Whole : State
  Whole = (generate_step state rows files).state

  -- the queries are asked of this state, and leave it
  at_queries : (old : Devices) (kept : State) (said : Status) (texts : List (List ℕ)) (line : List ℕ) (new : Devices) (left : State) → is_fault said ≡ true → RunsThrough (Moves files) (Tree ∷ Scan ∷ []) old kept said texts line new left → left ≡ kept
  at_queries old kept said texts line new left fault (inl (other, none, m)) = fault_kept files Tree old new kept left said line fault m
  at_queries old kept said texts line new left fault (inr (text, mid, between, more, m, inl (other, none, last), is)) =
      let d = done_left files Tree old mid kept between text m in
      fault_kept files Scan mid new between left said line fault last ∙ d.1.left
  at_queries old kept said texts line new left fault (inr (text, mid, between, more, m, inr (text', mid', between', more', last, (done, none, silent, same, is_left), is'), is)) =
      let both : is_fault said ≡ false = ap is_fault done in
      let clash : true ≡ false = sym fault ∙ both in
      absurd cc

  -- the segment is built of the state with the table alone
  at_build : (old : Devices) (said : Status) (texts : List (List ℕ)) (line : List ℕ) (new : Devices) (left : State) → is_fault said ≡ true → status.Done ≡ status_after (step_of state Make files no_finding).answer → RunsThrough (Moves files) (Fill ∷ Tree ∷ Scan ∷ []) old Alone said texts line new left
      → (left ≡ Alone) ⊎ (left ≡ Whole)
  at_build old said texts line new left fault made (inl (other, none, m)) = inl (fault_kept files Fill old new Alone left said line fault m)
  at_build old said texts line new left fault made (inr (text, mid, between, more, m, rest, is)) =
      let d = done_left files Fill old mid Alone between text m in
      let built : After = step_of Alone Fill files no_finding in
      let first : Whole ≡ (through Alone (Fill ∷ Tree ∷ Scan ∷ []) files).state = on_reply (step_of state Make files no_finding).answer Alone (through Alone (Fill ∷ Tree ∷ Scan ∷ []) files) made in
      let second : (through Alone (Fill ∷ Tree ∷ Scan ∷ []) files).state ≡ (through built.state (Tree ∷ Scan ∷ []) files).state = on_reply built.answer built.state (through built.state (Tree ∷ Scan ∷ []) files) d.1.replied in
      inr (at_queries mid between said more line new left fault rest ∙ d.1.left ∙ sym (first ∙ second ∙ asked_state built.state files))

  stopped_at : (old : Devices) (said : Status) (texts : List (List ℕ)) (line : List ℕ) (new : Devices) (left : State) → is_fault said ≡ true → RunsThrough (Moves files) (generate_commands rows) old state said texts line new left → IsOneOf state Alone Whole left
  stopped_at old said texts line new left fault (inl (other, none, m)) = inl (fault_kept files Make old new state left said line fault m)
  stopped_at old said texts line new left fault (inr (text, mid, between, more, m, rest, is)) =
      let d = done_left files Make old mid state between text m in
      inr (at_build mid said more line new left fault d.1.replied (subst (λ s. RunsThrough (Moves files) (Fill ∷ Tree ∷ Scan ∷ []) mid s said more line new left) d.1.left rest))

-- ---- all of it

fine_no_fault : (ended said : Status) → is_fault ended ≡ true → ended ≡ said → is_fault said ≡ false → ⊥
fine_no_fault ended said fault same fine =
    let clash : true ≡ false = sym fault ∙ ap is_fault same ∙ fine in
    absurd cc

stops_short : (files : Files) (rows : ℕ) (old : Stage State) (ended : Status) (new : Stage State) → is_fault ended ≡ true → Generates (Moves files) rows old ended new
    → IsOneOf old.kept (table_alone old.kept rows files) (generate_step old.kept rows files).state new.kept
    × ((new.out.written ≡ old.out.written) ⊎ ((new.kept ≡ (generate_step old.kept rows files).state) × AppendsPrefix (text_of (generate_step old.kept rows files).answer) old.out.written new.out.written))
stops_short files rows old ended new fault g = elim g.tells [
  | inl (fine, same, printed) ↦ absurd (fine_no_fault ended g.said fault same fine)
  | inr (inl (fine, same, cut)) ↦
      let left = whole_left files rows old ended new g fine in
      (inr (inr left), inr (left, subst (λ t. AppendsPrefix t old.out.written new.out.written) (line_text files rows old ended new g fine) cut.prefix))
  | inr (inr (inl (fine, same, out))) ↦ (inr (inr (whole_left files rows old ended new g fine)), inl out)
  | inr (inr (inr (failed, same, out))) ↦ (stopped_at files rows old.kept old.devices g.said g.texts g.line new.devices new.kept failed g.runs, inl out)
]

pub generate_stops : GenerateStops
generate_stops rows files kept state old new ended inputs stored stands g fault =
    let (next, moved, then) = generates_lift Promise (Moves files) (StandsIn files) (moves_on files) (stands_still files) rows old state ended new (record { inputs = inputs; kept = kept; stored = stored; stands = stands }) g in
    let (left_is, given) = stops_short files rows (beside state old) ended (beside next new) fault moved in
    record {
      left = next;
      left_is = left_is;
      stands = some_and new.devices.depot.held (λ held. Stands held next) then.kept then.stored then.stands;
      given = given;
    }
