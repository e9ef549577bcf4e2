-- A script that ends well has printed the reply and the mark of each line.
use Rattle.std.proofs.Common.{◌≡◌, ◌≢◌, ◌∙◌, ◌++◌, inl, inr, ℕ, Bool, true, false, List, [], ◌∷◌, length, nat_lt, Option, Some, None, IsSomeAnd, cond, refl, sym, ap, subst, append_assoc}
use Rattle.std.specs.FinMap as map
use Rattle.std.specs.Str.{is_utf8}
use Rattle.outside.specs.Files.{Files, OfFile}
use Rattle.outside.specs.Sink.{appended}
use Rattle.table_store.specs.Stands.{Stands}
use Rattle.table_store.specs.State.{State}
use Rattle.command_words.specs.Command.{Generate, One, Open, Request, Script, Serve}
use Rattle.command_words.specs.Notes.{is_fault}
use Rattle.command_words.specs.declared.status.Status.{Status}
use Rattle.command_words.specs.declared.status.Status.TheVariants as status
use Rattle.command_words.specs.declared.note.Counted.TheVariants as counted
use Rattle.command_words.specs.declared.note.Note.TheVariants as note
use Rattle.command_model.specs.Profile.{script_limit}
use Rattle.command_model.specs.Step.{After, HasStep, Refuses, opened, script_answer, status_after, step_of, text_of}
use Rattle.command_model.specs.Through.{generate_step}
use Rattle.command_model.specs.World.{Stage, beside}
use Rattle.pinot_run.specs.Headline.{Moves}
use Rattle.pinot_run.specs.Promise.{IsGiven, Promise}
use Rattle.pinot_run.specs.Script.{DoesOne, EndsAt, RunsLines, mark_of}
use Rattle.pinot_run.specs.ScriptLaws.{DonePrints, IsStepOf, Prints}
use Rattle.pinot_run.specs.Text.{line_request, lines_of}
use Rattle.pinot_run.proofs.GenerateSteps.{generates_given}
use Rattle.pinot_run.proofs.HeadlineLemmas.{StandsIn, given_of, moves_on, stands_still}
use Rattle.pinot_run.proofs.PromiseLemmas.{nothing_more}
use Rattle.pinot_run.proofs.ScriptLifts.{script_lift}

-- texts given one after another
both_given : (first more : List ℕ) (told : Option (List ℕ)) → appended more (appended first told) ≡ appended (first ++ more) told
both_given first more None = refl
both_given first more (Some old) = ap Some (append_assoc old first more)

-- a script that ends in a fault does not end well
pub not_done : (ended : Status) → is_fault ended ≡ true → ended ≢ status.Done
not_done ended fault e =
    let none : is_fault ended ≡ false = ap is_fault e in
    let same : true ≡ false = sym fault ∙ none in
    absurd cc

pub write_not_done : status.WriteFault ≢ status.Done
write_not_done e = absurd cc

no_last : (files : Files) (line : List ℕ) (old new : Stage State) → EndsAt (Moves files) line old status.Done new → ⊥
no_last files line old new e = elim e.stops [
  | inl (fault, same, left) ↦ not_done e.said fault (sym same)
  | inr (fine, same, cut) ↦ write_not_done (sym same)
]

-- what a line that ended without a fault gave and left is that of a step
line_given : (files : Files) (request : Request) (old : Stage State) (said : Status) (between : Stage State) → is_fault said ≡ false → DoesOne (Moves files) request old said between
    → (after : After) × IsStepOf old.kept request files after × IsGiven after.answer said old between × (between.kept ≡ after.state)
line_given files (Script file) old said between fine d = absurd d
line_given files (Serve file) old said between fine d = absurd d
line_given files (One command) old said between fine m =
    let h = given_of (HasStep old.kept command files) old said between fine m.leaves in
    (step_of old.kept command files h.0, (h.0, h.1, refl), h.2.0, h.2.1)
line_given files (Generate rows) old said between fine g =
    let (given, left) = generates_given files rows old said between fine g in
    (generate_step old.kept rows files, refl, given, left)

-- the lines print, and leave the state of their steps
pub lines_print : (files : Files) (lines : List (List ℕ)) (old new : Stage State) → RunsLines (Moves files) lines old status.Done new
    → (text : List ℕ) × Prints files old.kept lines text new.kept × (new.out.written ≡ appended text old.out.written)
lines_print files [] old new (done, same) = ([], (refl, ap (λ (s : Stage State). s.kept) same), ap (λ (s : Stage State). s.out.written) same ∙ nothing_more old.out.written)
lines_print files (line ∷ lines) old new (inl last) = absurd (no_last files line old new last)
lines_print files (line ∷ lines) old new (inr (next, goes, rest)) =
    let (after, is, given, left) = line_given files (line_request line) old goes.said goes.between goes.fine goes.does in
    let state : next.kept ≡ after.state = goes.marked.kept ∙ left in
    let (more, prints, out_more) = lines_print files lines next new rest in
    let mark : mark_of goes.said ≡ mark_of (status_after after.answer) = ap mark_of given.ended_so in
    let out : next.out.written ≡ appended (text_of after.answer ++ mark_of (status_after after.answer)) old.out.written =
    goes.marked.out ∙ (λ i. appended (mark i) (given.out i)) ∙ both_given (text_of after.answer) (mark_of (status_after after.answer)) old.out.written in (
      text_of after.answer ++ (mark_of (status_after after.answer) ++ more),
      (after, is, more, refl, subst (λ s. Prints files s lines more new.kept) state prints),
      out_more ∙ ap (appended more) out ∙ both_given (text_of after.answer ++ mark_of (status_after after.answer)) more old.out.written
          ∙ ap (λ t. appended t old.out.written) (append_assoc (text_of after.answer) (mark_of (status_after after.answer)) more),
    )

-- nothing is replied to the opening of a script
opened_text : (test : Bool) → text_of (opened test) ≡ []
opened_text true = refl
opened_text false = refl

none_replied : (file : List ℕ) (bytes : Option (List ℕ)) → text_of (script_answer file bytes) ≡ []
unfolding script_answer
none_replied file None = refl
none_replied file (Some bytes) = by (nat_lt 16777216 (length bytes))
  where
    by : (long : Bool) → text_of (cond long (Refuses (note.TooLarge counted.ScriptBytes script_limit)) (opened (is_utf8 bytes))) ≡ []
    by true = refl
    by false = opened_text (is_utf8 bytes)

-- the text is the one of the file
own_text : (held : Option Files) (files : Files) (file text other : List ℕ) → held ≡ Some files → map.get files file ≡ Some text → OfFile held file (λ bytes. bytes ≡ other) → other ≡ text
own_text held files file text other told got of =
    let (bytes, is, same) = subst (λ h. OfFile h file (λ bytes. bytes ≡ other)) told of in
    let both : Some bytes ≡ Some text = sym is ∙ got in
    let one : bytes ≡ text = cc in
    sym same ∙ one

pub done_prints : DonePrints
done_prints files kept state file text old new inputs stored stands got script =
    let (next, runs, i) = script_lift Promise (Moves files) (StandsIn files) (moves_on files) (stands_still files) file old state status.Done new (record { inputs = inputs; kept = kept; stored = stored; stands = stands }) script in
    elim runs.follows [
      | inl (stopped, same, left) ↦ absurd (stopped (sym same))
      | inr (done, other, of, lines) ↦
          let texts : other ≡ text = own_text old.devices.inputs.held files file text other inputs got of in
          let fine : is_fault runs.said ≡ false = ap is_fault done in
          let h = given_of (HasStep state (Some (Open file)) files) (beside state old) runs.said runs.opened fine runs.opens.leaves in
          let silent : runs.opened.out.written ≡ old.out.written = h.2.0.out ∙ ap (λ t. appended t old.out.written) (none_replied file (map.get files file)) ∙ sym (nothing_more old.out.written) in
          let (printed, prints, out) = lines_print files (lines_of other) runs.opened (beside next new) lines in
          record {
            printed = printed;
            left = next;
            prints = subst (λ t. Prints files state (lines_of t) printed next) texts (subst (λ s. Prints files s (lines_of other) printed next) h.2.1 prints);
            out = out ∙ ap (appended printed) silent;
            stands = subst (λ (o : Option Files). IsSomeAnd o (λ held. Stands held next)) (sym i.stored) i.stands;
          }
    ]
