-- What `generate` does is what the steps of its commands do, one after another.
use Rattle.std.proofs.Common.{◌≡◌, ◌≢◌, ◌∙◌, inl, inr, ℕ, true, false, List, [], ◌∷◌, Option, Some, None, IsSomeAnd, refl, sym, ap, subst}
use Rattle.outside.specs.Files.{Files}
use Rattle.outside.specs.Sink.{appended}
use Rattle.table_store.specs.Images.{Found}
use Rattle.table_store.specs.Stands.{Stands}
use Rattle.table_store.specs.State.{State}
use Rattle.command_words.specs.Command.{Command}
use Rattle.command_words.specs.Notes.{is_fault, note_text, status_of}
use Rattle.command_words.specs.declared.note.Note.{Note}
use Rattle.command_words.specs.declared.status.Status.{Status}
use Rattle.command_words.specs.declared.status.Status.TheVariants as status
use Rattle.command_model.specs.Generated.{generate_commands}
use Rattle.command_model.specs.Step.{After, Answer, HasStep, Refuses, Replies, line_of, status_after, step_of, text_of}
use Rattle.command_model.specs.Through.{Chain, after_answer, chain_answer, generate_step, no_finding, through}
use Rattle.command_model.specs.World.{Devices, Stage, beside}
use Rattle.pinot_run.specs.Generate.{Generates, RunsThrough, aside, line_after}
use Rattle.pinot_run.specs.GenerateLaws.{GenerateSteps}
use Rattle.pinot_run.specs.Headline.{Moves}
use Rattle.pinot_run.specs.Promise.{IsGiven, Promise}
use Rattle.pinot_run.proofs.GenerateLemmas.{none_after}
use Rattle.pinot_run.proofs.HeadlineLemmas.{StandsIn, given_of, moves_on, stands_still}
use Rattle.pinot_run.proofs.ScriptLemmas.{line_not_done}
use Rattle.pinot_run.proofs.ScriptLifts.{generates_lift}

module _ (files : Files) where
  -- none of these commands takes notice of what the check of a file finds
  abbrev ChecksNone : List (Option Command) → Type 0
  ChecksNone [] = Unit {0}
  ChecksNone (command ∷ commands) = ((state : State) (found : Found) → step_of state command files found ≡ step_of state command files no_finding) × ChecksNone commands

  generated_check_none : (rows : ℕ) → ChecksNone (generate_commands rows)
  generated_check_none rows = ((λ state found. refl), ((λ state found. refl), ((λ state found. refl), ((λ state found. refl), tt))))

  -- how commands end: all were done, or one was refused
  abbrev EndsSo : Option Note → Status → List ℕ → Type 0
  EndsSo None said line = (said ≡ status.Done) × (line ≡ [])
  EndsSo (Some refused) said line = (said ≡ status_of refused) × (line ≡ note_text refused)

  record ChainOf (chain : Chain) (said : Status) (texts : List (List ℕ)) (line : List ℕ) (left : State) : Type 0 where
    pub texts_are : texts ≡ chain.texts
    pub left_is : left ≡ chain.state
    pub ends : EndsSo chain.refusal said line

  stopped_by : (answer : Answer) (state : State) (rest : Chain) (old new : Devices) (kept left : State) (said : Status) (texts : List (List ℕ)) (line : List ℕ) → IsGiven answer said (aside old kept [] []) (aside new left [] line) → said ≢ status.Done → texts ≡ [] → left ≡ state
      → ChainOf (after_answer answer state rest) said texts line left
  stopped_by (Replies text) state rest old new kept left said texts line given other none is = absurd (other given.ended_so)
  stopped_by (Refuses refused) state rest old new kept left said texts line given other none is =
      let both : Some line ≡ Some (note_text refused) = given.notes in
      let own : line ≡ note_text refused = cc in
      record { texts_are = none; left_is = is; ends = (given.ended_so, own) }

  done_by : (answer : Answer) (state : State) (rest : Chain) (old mid : Devices) (kept between : State) (text : List ℕ) (said : Status) (texts more : List (List ℕ)) (line : List ℕ) (left : State)
      → IsGiven answer status.Done (aside old kept [] []) (aside mid between text []) → ChainOf rest said more line left → texts ≡ text ∷ more → ChainOf (after_answer answer state rest) said texts line left
  done_by (Replies own) state rest old mid kept between text said texts more line left given chain is =
      let both : Some text ≡ Some own = given.out in
      let same : text ≡ own = cc in
      record { texts_are = is ∙ (λ k. same k ∷ chain.texts_are k); left_is = chain.left_is; ends = chain.ends }
  done_by (Refuses refused) state rest old mid kept between text said texts more line left given chain is = absurd (line_not_done refused (sym given.ended_so))

  runs_chain : (commands : List (Option Command)) → ChecksNone commands → (old : Devices) (kept : State) (said : Status) (texts : List (List ℕ)) (line : List ℕ) (new : Devices) (left : State) → is_fault said ≡ false
      → RunsThrough (Moves files) commands old kept said texts line new left → ChainOf (through kept commands files) said texts line left
  runs_chain [] none old kept said texts line new left fine (done, empty, silent, same, is) = record { texts_are = empty; left_is = is; ends = (done, silent) }
  runs_chain (command ∷ commands) (plain, others) old kept said texts line new left fine (inl (other, none, moves)) =
      let h = given_of (HasStep kept command files) (aside old kept [] []) said (aside new left [] line) fine moves.leaves in
      let same = plain kept h.0 in
      stopped_by (step_of kept command files no_finding).answer (step_of kept command files no_finding).state _ old new kept left said texts line
      (subst (λ (a : After). IsGiven a.answer said (aside old kept [] []) (aside new left [] line)) same h.2.0) other none (h.2.1 ∙ ap (λ (a : After). a.state) same)
  runs_chain (command ∷ commands) (plain, others) old kept said texts line new left fine (inr (text, mid, between, more, moves, rest, is)) =
      let h = given_of (HasStep kept command files) (aside old kept [] []) status.Done (aside mid between text []) refl moves.leaves in
      let same = plain kept h.0 in
      let state : between ≡ (step_of kept command files no_finding).state = h.2.1 ∙ ap (λ (a : After). a.state) same in
      let chain : ChainOf (through (step_of kept command files no_finding).state commands files) said more line left = subst (λ s. ChainOf (through s commands files) said more line left) state (runs_chain commands others mid between said more line new left fine rest) in
      done_by (step_of kept command files no_finding).answer (step_of kept command files no_finding).state _ old mid kept between text said texts more line left
      (subst (λ (a : After). IsGiven a.answer status.Done (aside old kept [] []) (aside mid between text [])) same h.2.0) chain is

pub some_and : (o : Option Files) (P : Files → Type 0) (x : Files) → o ≡ Some x → P x → IsSomeAnd o P
some_and o P x is p = subst (λ w. IsSomeAnd w P) (sym is) p

-- the line of a chain
chain_text : (files : Files) (rows : ℕ) (chain : Chain) (refusal : Option Note) (said : Status) (texts : List (List ℕ)) (line : List ℕ) → texts ≡ chain.texts → EndsSo files refusal said line → line_after rows said texts ≡ text_of (chain_answer rows chain.texts refusal)
chain_text files rows chain None said texts line are (done, silent) = λ k. line_after rows (done k) (are k)
chain_text files rows chain (Some refused) said texts line are (is, own) = ap (λ s. line_after rows s texts) is ∙ none_after rows refused texts

-- the line, or the refusal, of a chain
follows : {K : Type 0} → (files : Files) (rows : ℕ) (chain : Chain) (refusal : Option Note) (said : Status) (texts : List (List ℕ)) (line : List ℕ) (old new : Stage K)
    → texts ≡ chain.texts → EndsSo files refusal said line → new.out.written ≡ appended (line_after rows said texts) old.out.written → new.notes.written ≡ appended line old.notes.written
    → (said ≡ status_after (chain_answer rows chain.texts refusal)) × (new.out.written ≡ appended (text_of (chain_answer rows chain.texts refusal)) old.out.written)
    × (new.notes.written ≡ appended (line_of (chain_answer rows chain.texts refusal)) old.notes.written)
follows files rows chain None said texts line old new are (done, silent) out notes = (
  done,
  out ∙ ap (λ t. appended t old.out.written) (chain_text files rows chain None said texts line are (done, silent)),
  notes ∙ ap (λ l. appended l old.notes.written) silent,
)
follows files rows chain (Some refused) said texts line old new are (is, own) out notes = (
  is,
  out ∙ ap (λ t. appended t old.out.written) (chain_text files rows chain (Some refused) said texts line are (is, own)),
  notes ∙ ap (λ l. appended l old.notes.written) own,
)

fault_not_fine : (ended said : Status) → is_fault ended ≡ false → ended ≡ said → is_fault said ≡ true → ⊥
fault_not_fine ended said fine same fault =
    let both : false ≡ true = sym fine ∙ ap is_fault same ∙ fault in
    absurd cc

-- where no command had a fault they are those of the whole chain
whole_chain : (files : Files) (rows : ℕ) (old : Stage State) (ended : Status) (new : Stage State) (g : Generates (Moves files) rows old ended new) → is_fault g.said ≡ false → ChainOf files (through old.kept (generate_commands rows) files) g.said g.texts g.line new.kept
whole_chain files rows old ended new g fine = runs_chain files (generate_commands rows) (generated_check_none files rows) old.devices old.kept g.said g.texts g.line new.devices new.kept fine g.runs

-- the state that commands without a fault leave is that after all steps
pub run_left : (files : Files) (rows : ℕ) (old : Devices) (kept : State) (said : Status) (texts : List (List ℕ)) (line : List ℕ) (new : Devices) (left : State) → is_fault said ≡ false → RunsThrough (Moves files) (generate_commands rows) old kept said texts line new left → left ≡ (generate_step kept rows files).state
run_left files rows old kept said texts line new left fine runs = (runs_chain files (generate_commands rows) (generated_check_none files rows) old kept said texts line new left fine runs).left_is

-- so the state that is left is that after all steps, and the line is theirs
pub whole_left : (files : Files) (rows : ℕ) (old : Stage State) (ended : Status) (new : Stage State) (g : Generates (Moves files) rows old ended new) → is_fault g.said ≡ false → new.kept ≡ (generate_step old.kept rows files).state
whole_left files rows old ended new g fine = (whole_chain files rows old ended new g fine).left_is

pub line_text : (files : Files) (rows : ℕ) (old : Stage State) (ended : Status) (new : Stage State) (g : Generates (Moves files) rows old ended new) → is_fault g.said ≡ false → line_after rows g.said g.texts ≡ text_of (generate_step old.kept rows files).answer
line_text files rows old ended new g fine =
    let chain = whole_chain files rows old ended new g fine in
    let whole : Chain = through old.kept (generate_commands rows) files in
    chain_text files rows whole whole.refusal g.said g.texts g.line chain.texts_are chain.ends

-- rows that were generated from a state on, without a fault, have given and left what the steps of the commands say
pub generates_given : (files : Files) (rows : ℕ) (old : Stage State) (ended : Status) (new : Stage State) → is_fault ended ≡ false → Generates (Moves files) rows old ended new
    → IsGiven (generate_step old.kept rows files).answer ended old new × (new.kept ≡ (generate_step old.kept rows files).state)
generates_given files rows old ended new fine g = elim g.tells [
  | inl (said_fine, same, printed) ↦
      let chain = whole_chain files rows old ended new g said_fine in
      let whole : Chain = through old.kept (generate_commands rows) files in
      let told = follows files rows whole whole.refusal g.said g.texts g.line old new chain.texts_are chain.ends printed.out printed.notes in
      (record { ended_so = same ∙ told.0; out = told.1; notes = told.2 }, chain.left_is)
  | inr (inl (said_fine, same, cut)) ↦ absurd (fault_not_fine ended status.WriteFault fine same refl)
  | inr (inr (inl (said_fine, same, out))) ↦ absurd (fault_not_fine ended status.NoMemory fine same refl)
  | inr (inr (inr (fault, same, out))) ↦ absurd (fault_not_fine ended g.said fine same fault)
]

pub generate_steps : GenerateSteps
generate_steps rows files kept state old new ended inputs stored stands g fine =
    let (next, moved, then) = generates_lift Promise (Moves files) (StandsIn files) (moves_on files) (stands_still files) rows old state ended new (record { inputs = inputs; kept = kept; stored = stored; stands = stands }) g in
    let (given, left) = generates_given files rows (beside state old) ended (beside next new) fine moved in
    let after : After = generate_step state rows files in
    record {
      ended_so = given.ended_so;
      out = given.out;
      notes = given.notes;
      stands = some_and new.devices.depot.held (λ held. Stands held after.state) then.kept then.stored (subst (Stands then.kept) left then.stands);
    }
