-- What a call of cursors did is what a line answers over a table.
use Rattle.std.proofs.Common.{◌≡◌, ◌≢◌, ◌⊎◌, ◌∙◌, ◌+◌, inl, inr, ℕ, List, Option, Some, None, IfSome, IsErrOf, Result, Ok, Err, refl, sym, ap, subst}
use Rattle.std.specs.Prelude.{IfErr, IsSomeAnd}
use Rattle.outside.specs.Counts.{Rose}
use Rattle.outside.specs.Files.{Files}
use Rattle.outside.specs.Seen.{OnlyReads, Seen}
use Rattle.segment_file.specs.declared.part.Part.{Part}
use Rattle.table_schema.specs.declared.table.Table.{Table}
use Rattle.table_store.specs.Calls.{CopiesFile, OnlyRemoves}
use Rattle.table_store.specs.Stands.{Stands}
use Rattle.table_store.specs.State.{HasTable, Texts}
use Rattle.cursor_serve.specs.Machine as machine
use Rattle.cursor_serve.specs.Machine.{Machine, Refusal}
use Rattle.cursor_serve.specs.ServingStands.{OpenCursor, ServingStands, segments_of}
use Rattle.serving.specs.Calls.{IsAnsweredAs, Serves}
use Rattle.serving.specs.Faults.{IsCloseFault}
use Rattle.serving.specs.declared.fault.ServeFault.{ServeFault}
use Rattle.serving.specs.declared.fault.ServeFault.TheVariants as serve
use Rattle.command_words.specs.declared.fault.Fault.{Fault}
use Rattle.command_words.specs.declared.fault.Fault.TheVariants as fault
use Rattle.command_words.specs.declared.note.Note.{Note}
use Rattle.command_words.specs.declared.stop.Stop.{Stop}
use Rattle.command_words.specs.declared.stop.Stop.TheVariants as stop
use Rattle.command_model.specs.Ran.{Counts}
use Rattle.command_model.specs.World.{Devices}
use Rattle.serve_lines.specs.Calls.{AnswersBy, AnswersSo, IsAnswerOf, IsGivenUp, IsServeStop, StopIsCaused, WhereTold}
use Rattle.serve_lines.specs.Kept.{AreBefore, StandsServed}
use Rattle.serve_lines.specs.Step.{After, Serves as Over, by_machine, refusal_note, said, unchanged}
use Rattle.serve_lines.proofs.MachineLemmas.{before_next}

-- ---- told files

pub where_told : (inputs stored : Option Files) (P : Files → Files → Type 0) → ((given kept : Files) → inputs ≡ Some given → stored ≡ Some kept → P given kept) → WhereTold inputs stored P
where_told None stored P f = tt
where_told (Some given) None P f = tt
where_told (Some given) (Some kept) P f = f given kept refl refl

pub told_at : {X : Type 0} (held : Option X) (x : X) (Q : X → Type 0) → held ≡ Some x → IfSome held Q → Q x
told_at held x Q is h = subst (λ o. IfSome o Q) is h

pub some_map : {X : Type 0} (held : Option X) (Q R : X → Type 0) → ((x : X) → Q x → R x) → IsSomeAnd held Q → IsSomeAnd held R
some_map None Q R f h = absurd h
some_map (Some x) Q R f h = f x h

-- ---- counts of faults

-- which counts a call of cursors raised
pub record HasCounts {A : Type 0} (old new : Seen) (r : Result A ServeFault) : Type 0 where
  pub reads : ¬ IsErrOf r serve.ReadFault → new.read_faults ≡ old.read_faults
  pub writes : ¬ IsErrOf r serve.WriteFault → new.write_faults ≡ old.write_faults
  pub read_rose : IsErrOf r serve.ReadFault → Rose old.read_faults new.read_faults
  pub write_rose : IsErrOf r serve.WriteFault → Rose old.write_faults new.write_faults

module _ {A : Type 0} (r : Result A ServeFault) (a b : Seen) where
  pub counts_reads : OnlyReads (IsErrOf r serve.ReadFault) a b → (r ≢ Err serve.WriteFault) → HasCounts a b r
  counts_reads o never = record { reads = o.unchanged; writes = λ e. o.writes; read_rose = o.rose; write_rose = λ e. absurd (never e) }

  pub counts_removes : OnlyRemoves ⊥ (IsErrOf r serve.WriteFault) a b → (r ≢ Err serve.ReadFault) → HasCounts a b r
  counts_removes o never = record { reads = λ e. o.reads_still (λ f. f); writes = o.writes_still; read_rose = λ e. absurd (never e); write_rose = o.write_failed }

  pub counts_copies : (file : List ℕ) → CopiesFile file (IsErrOf r serve.ReadFault) (IsErrOf r serve.WriteFault) a b → HasCounts a b r
  counts_copies file o = record { reads = o.reads_still; writes = o.writes_still; read_rose = o.read_failed; write_rose = o.write_failed }

-- ---- a call, as a line

-- a line says of a call what it answered, but that memory may run out for what is said
abbrev pub Says : {A : Type 0} → (A → List ℕ) → List ℕ → (Machine → machine.After A) → Result A ServeFault → Result (List ℕ) Stop → Type 0
Says text name step (Ok a) answer = (answer ≡ Ok (text a)) ⊎ (((m : Machine) → (step m).machine.live ≡ m.live) × (answer ≡ Err (stop.Fault fault.Memory)))
Says text name step (Err why) answer = (s : Stop) × (answer ≡ Err s) × IsServeStop name why s

module _ {A : Type 0} (number : ℕ) (text : A → List ℕ) (name : List ℕ) (step : Machine → machine.After A) (table : Table) (olds news : List OpenCursor)
    (before : (m : Machine) → AreBefore number m → AreBefore (number + 1) (step m).machine)
    (still : (m : Machine) (why : Refusal) → (step m).answer ≡ Err why → (step m).machine.live ≡ m.live) where
  abbrev Saying : Result A ServeFault → Result (List ℕ) Stop → Type 0
  Saying r answer = Says text name step r answer

  module _ (texts : Texts) (m : Machine) (files : Files) (all : AreBefore number m) where
    abbrev Live : Type 0
    Live = Stands files (HasTable texts (segments_of m.live))

    abbrev Goal : Result (List ℕ) Stop → Type 0
    Goal answer = IsAnswerOf (by_machine texts name text (step m)) (StandsServed (number + 1) (record { table = Some table; cursors = news }) files) Live answer

    left : ServingStands news files texts table (step m).machine → StandsServed (number + 1) (record { table = Some table; cursors = news }) files (Over texts (step m).machine)
    left stands = record { table = table; table_is = inr refl; stands = stands; before = before m all }

    live : (step m).machine.live ≡ m.live → ServingStands news files texts table (step m).machine → Live
    live same stands = subst (λ l. Stands files (HasTable texts (segments_of l))) same stands.live

    -- a refusal of the machine, of which memory may run out to tell
    refuses : (why : Refusal) (answer : Result (List ℕ) Stop) (s : Stop) → ((step m).answer ≡ Err why) × ServingStands news files texts table (step m).machine → answer ≡ Err s → (s ≡ stop.Refused (refusal_note name why)) ⊎ (s ≡ stop.Fault fault.Memory) → Goal answer
    refuses why answer s (is, stands) e (inl same) = subst Goal (sym (e ∙ ap (λ s. Err s) same)) (ap (said name text) is, left stands)
    refuses why answer s (is, stands) e (inr same) = subst Goal (sym (e ∙ ap (λ s. Err s) same)) (live (still m why is) stands)

    fails : (answer : Result (List ℕ) Stop) (s : Stop) (f : Fault) → Live → answer ≡ Err s → s ≡ stop.Fault f → Goal answer
    fails answer s f l e same = subst Goal (sym (e ∙ ap (λ s. Err s) same)) l

    pub answer_so : (r : Result A ServeFault) (answer : Result (List ℕ) Stop) → IsAnsweredAs (step m) (ServingStands news files texts table) Live r → Saying r answer → Goal answer
    answer_so (Ok a) answer (is, stands) (inl e) = subst Goal (sym e) (ap (said name text) is, left stands)
    answer_so (Ok a) answer (is, stands) (inr (same, e)) = subst Goal (sym e) (live (same m) stands)
    answer_so (Err serve.CursorTaken) answer h (s, e, of) = refuses machine.CursorTaken answer s h e of
    answer_so (Err serve.TooManyCursors) answer h (s, e, of) = refuses machine.TooManyCursors answer s h e (inl of)
    answer_so (Err serve.NoCursor) answer h (s, e, of) = refuses machine.NoCursor answer s h e of
    answer_so (Err serve.TooManyGroups) answer h (s, e, of) = refuses machine.TooManyGroups answer s h e (inl of)
    answer_so (Err serve.NoSegment) answer h (s, e, of) = refuses machine.NoSegment answer s h e of
    answer_so (Err serve.TooLarge) answer h (s, e, of) = absurd h
    answer_so (Err (serve.NotASegment part)) answer h (s, e, of) = absurd h
    answer_so (Err serve.ReadFault) answer h (s, e, of) = fails answer s fault.Read h e of
    answer_so (Err serve.WriteFault) answer h (s, e, of) = fails answer s fault.Write h e of
    answer_so (Err serve.NoMemory) answer h (s, e, of) = fails answer s fault.Memory h e of

  module _ (i d e : Seen) where
    abbrev Old : Devices
    Old = record { inputs = i; depot = d }

    abbrev New : Devices
    New = record { inputs = i; depot = e }

    abbrev Counted : Result (List ℕ) Stop → Type 0
    Counted answer = Counts answer Old New × IfErr answer (StopIsCaused Old New)

    quiet : (r : Result A ServeFault) → HasCounts d e r → (r ≢ Err serve.ReadFault) → (r ≢ Err serve.WriteFault) → (s : Result (List ℕ) Stop) → ((s ≡ Err (stop.Fault fault.Memory)) ⊎ ((text : List ℕ) × (s ≡ Ok text)) ⊎ ((line : Note) × (s ≡ Err (stop.Refused line)))) → Counted s
    quiet r c no_read no_write s (inl is) = subst Counted (sym is) (record { inputs = refl; depot_reads = c.reads no_read; depot_writes = c.writes no_write }, tt)
    quiet r c no_read no_write s (inr (inl (text, is))) = subst Counted (sym is) (record { inputs = refl; depot_reads = c.reads no_read; depot_writes = c.writes no_write }, tt)
    quiet r c no_read no_write s (inr (inr (line, is))) = subst Counted (sym is) (record { inputs = refl; depot_reads = c.reads no_read; depot_writes = c.writes no_write }, tt)

    either : (answer : Result (List ℕ) Stop) (s : Stop) (line : Note) → answer ≡ Err s → (s ≡ stop.Refused line) ⊎ (s ≡ stop.Fault fault.Memory)
        → (answer ≡ Err (stop.Fault fault.Memory)) ⊎ ((text : List ℕ) × (answer ≡ Ok text)) ⊎ ((line : Note) × (answer ≡ Err (stop.Refused line)))
    either answer s line e (inl is) = inr (inr (line, e ∙ ap (λ s. Err s) is))
    either answer s line e (inr is) = inl (e ∙ ap (λ s. Err s) is)

    pub counts_so : (r : Result A ServeFault) (answer : Result (List ℕ) Stop) → HasCounts d e r → Saying r answer → Counted answer
    counts_so (Ok a) answer c (inl is) = quiet (Ok a) c (λ e. cc) (λ e. cc) answer (inr (inl (text a, is)))
    counts_so (Ok a) answer c (inr (same, is)) = quiet (Ok a) c (λ e. cc) (λ e. cc) answer (inl is)
    counts_so (Err serve.CursorTaken) answer c (s, is, of) = quiet (Err serve.CursorTaken) c (λ e. cc) (λ e. cc) answer (either answer s _ is of)
    counts_so (Err serve.TooManyCursors) answer c (s, is, of) = quiet (Err serve.TooManyCursors) c (λ e. cc) (λ e. cc) answer (either answer s _ is (inl of))
    counts_so (Err serve.NoCursor) answer c (s, is, of) = quiet (Err serve.NoCursor) c (λ e. cc) (λ e. cc) answer (either answer s _ is of)
    counts_so (Err serve.TooManyGroups) answer c (s, is, of) = quiet (Err serve.TooManyGroups) c (λ e. cc) (λ e. cc) answer (either answer s _ is (inl of))
    counts_so (Err serve.NoSegment) answer c (s, is, of) = quiet (Err serve.NoSegment) c (λ e. cc) (λ e. cc) answer (either answer s _ is of)
    counts_so (Err serve.TooLarge) answer c (s, is, of) = quiet (Err serve.TooLarge) c (λ e. cc) (λ e. cc) answer (either answer s _ is (inl of))
    counts_so (Err (serve.NotASegment part)) answer c (s, is, of) = absurd of
    counts_so (Err serve.ReadFault) answer c (s, is, of) = subst Counted (sym (is ∙ ap (λ s. Err s) of)) (c.writes (λ e. cc), inr (c.read_rose refl))
    counts_so (Err serve.WriteFault) answer c (s, is, of) = subst Counted (sym (is ∙ ap (λ s. Err s) of)) ((refl, c.reads (λ e. cc)), c.write_rose refl)
    counts_so (Err serve.NoMemory) answer c (s, is, of) = quiet (Err serve.NoMemory) c (λ e. cc) (λ e. cc) answer (inl (is ∙ ap (λ s. Err s) of))

    -- what is answered wherever what is kept stands for a state
    abbrev pub Answering : Result A ServeFault → Type 0
    Answering r = (kept : Files) → d.held ≡ Some kept → (texts : Texts) (m : Machine) → ServingStands olds kept texts table m → AreBefore number m
        → IsSomeAnd e.held (λ left. IsAnsweredAs (step m) (ServingStands news left texts table) (Stands left (HasTable texts (segments_of m.live))) r)

    pub call_as : (r : Result A ServeFault) (answer : Result (List ℕ) Stop) → Answering r → HasCounts d e r → Saying r answer → AnswersBy number text name step table Old New olds news answer
    call_as r answer serves c says =
        let both = counts_so r answer c says in
        record {
          serves = where_told i.held d.held _ (λ given kept there told texts m stands all.
              some_map e.held (λ left. IsAnsweredAs (step m) (ServingStands news left texts table) (Stands left (HasTable texts (segments_of m.live))) r)
              (λ files. IsAnswerOf (by_machine texts name text (step m)) (StandsServed (number + 1) (record { table = Some table; cursors = news }) files) (Stands files (HasTable texts (segments_of m.live))) answer)
              (λ files h. answer_so texts m files all r answer h says)
              (serves kept told texts m stands all));
          given = refl;
          counted = both.0;
          caused = both.1;
        }

    -- what a call did is what a line by it answers
    pub call_so : (r : Result A ServeFault) (answer : Result (List ℕ) Stop) → Serves step table olds news d.held e.held r → HasCounts d e r → Saying r answer → AnswersBy number text name step table Old New olds news answer
    call_so r answer serves c says =
        call_as r answer
        (λ kept told texts m stands all. told_at d.held kept (λ files. (texts : Texts) (m : Machine) → ServingStands olds files texts table m → IsSomeAnd e.held (λ left. IsAnsweredAs (step m) (ServingStands news left texts table) (Stands left (HasTable texts (segments_of m.live))) r)) told serves texts m stands)
        c says

-- ---- a line that does nothing

module _ (number : ℕ) (step : Files → Texts → Machine → After) (table : Table) (i d : Seen) (olds : List OpenCursor) where
  abbrev Here : Devices
  Here = record { inputs = i; depot = d }

  abbrev pub Answers : Result (List ℕ) Stop → Type 0
  Answers answer = AnswersSo step number table Here Here olds olds answer

  -- what stands for a state of the machine does so at the next line
  next_over : (texts : Texts) (m : Machine) (files : Files) → ServingStands olds files texts table m → AreBefore number m → StandsServed (number + 1) (record { table = Some table; cursors = olds }) files (Over texts m)
  next_over texts m files stands all = record { table = table; table_is = inr refl; stands = stands; before = before_next number m.kept all }

  -- a refusal that changes nothing, of all that files stand for; or memory ran out
  pub over_refused : (wrong : Note) (s : Stop) → (s ≡ stop.Refused wrong) ⊎ (s ≡ stop.Fault fault.Memory)
      → ((given files : Files) (texts : Texts) (m : Machine) → ServingStands olds files texts table m → step given texts m ≡ unchanged wrong (Over texts m)) → Answers (Err s)
  over_refused wrong s (inl is) steps = subst (λ s. Answers (Err s)) (sym is) (record {
    serves = where_told i.held d.held _ (λ given files there told texts m stands all.
        subst (λ o. IsSomeAnd o (λ files. IsAnswerOf (step given texts m) (StandsServed (number + 1) (record { table = Some table; cursors = olds }) files) (Stands files (HasTable texts (segments_of m.live))) (Err (stop.Refused wrong)))) (sym told)
        (subst (λ a. IsAnswerOf a (StandsServed (number + 1) (record { table = Some table; cursors = olds }) files) (Stands files (HasTable texts (segments_of m.live))) (Err (stop.Refused wrong))) (sym (steps given files texts m stands)) (refl, next_over texts m files stands all)));
    given = refl;
    counted = record { inputs = refl; depot_reads = refl; depot_writes = refl };
    caused = tt;
  })
  over_refused wrong s (inr is) steps = subst (λ s. Answers (Err s)) (sym is) over_failed
    where
      over_failed : Answers (Err (stop.Fault fault.Memory))
      over_failed = record {
        serves = where_told i.held d.held _ (λ given files there told texts m stands all. subst (λ o. IsSomeAnd o (λ files. Stands files (HasTable texts (segments_of m.live)))) (sym told) stands.live);
        given = refl;
        counted = record { inputs = refl; depot_reads = refl; depot_writes = refl };
        caused = tt;
      }

  -- memory ran out before anything was done
  pub over_memory : Answers (Err (stop.Fault fault.Memory))
  over_memory = record {
    serves = where_told i.held d.held _ (λ given files there told texts m stands all. subst (λ o. IsSomeAnd o (λ files. Stands files (HasTable texts (segments_of m.live)))) (sym told) stands.live);
    given = refl;
    counted = record { inputs = refl; depot_reads = refl; depot_writes = refl };
    caused = tt;
  }

-- ---- a file that is no segment's

pub none_such : {X A : Type 0} (held : Option X) → IsSomeAnd held (λ _. ⊥) → A
none_such None h = absurd h
none_such (Some x) h = absurd h

-- the result of a call that failed so
abbrev pub failed_as : (A : Type 0) → ServeFault → Result A ServeFault
failed_as A why = Err why

-- one that failed for a file that is no segment's had no read fault
pub reads_quiet : (A : Type 0) (f : ServeFault) (part : Part) (d m : Seen) → f ≡ serve.NotASegment part → OnlyReads (IsErrOf (failed_as A f) serve.ReadFault) d m → m.read_faults ≡ d.read_faults
reads_quiet A f part d m is o = o.unchanged (λ e. other f (failed_as A f) is refl e)
  where
    other : (f : ServeFault) (r : Result A ServeFault) → f ≡ serve.NotASegment part → r ≡ Err f → r ≡ Err serve.ReadFault → ⊥
    other f r p q e = cc

given_memory : (m e : Seen) (s : Stop) → e.read_faults ≡ m.read_faults → e.write_faults ≡ m.write_faults → s ≡ stop.Fault fault.Memory → IsGivenUp m e s
given_memory m e s reads writes is = record { reads = reads; writes = λ no. writes; rose = λ e. absurd (memory_write s is e); no_read = λ e. memory_read s is e }
  where
    memory_write : (s : Stop) → s ≡ stop.Fault fault.Memory → s ≡ stop.Fault fault.Write → ⊥
    memory_write s p q = cc

    memory_read : (s : Stop) → s ≡ stop.Fault fault.Memory → s ≡ stop.Fault fault.Read → ⊥
    memory_read s p q = cc

-- what the fault of the call that closes the cursor is
pub given_closed : (m e : Seen) (name : List ℕ) (f : ServeFault) (s : Stop) → IsCloseFault f → OnlyRemoves ⊥ (IsErrOf (failed_as (Unit {0}) f) serve.WriteFault) m e → IsServeStop name f s → IsGivenUp m e s
given_closed m e name serve.NoCursor s of o (inl is) = record { reads = o.reads_still (λ f. f); writes = λ no. o.writes_still (λ e. cc); rose = λ e. absurd (refused_write _ s is e); no_read = λ e. refused_read _ s is e }
  where
    refused_write : (line : Note) (s : Stop) → s ≡ stop.Refused line → s ≡ stop.Fault fault.Write → ⊥
    refused_write line s p q = cc

    refused_read : (line : Note) (s : Stop) → s ≡ stop.Refused line → s ≡ stop.Fault fault.Read → ⊥
    refused_read line s p q = cc
given_closed m e name serve.NoCursor s of o (inr is) = given_memory m e s (o.reads_still (λ f. f)) (o.writes_still (λ e. cc)) is
given_closed m e name serve.WriteFault s of o is = record { reads = o.reads_still (λ f. f); writes = λ no. absurd (no is); rose = λ e. o.write_failed refl; no_read = λ e. write_read s is e }
  where
    write_read : (s : Stop) → s ≡ stop.Fault fault.Write → s ≡ stop.Fault fault.Read → ⊥
    write_read s p q = cc
given_closed m e name serve.NoMemory s of o is = given_memory m e s (o.reads_still (λ f. f)) (o.writes_still (λ e. cc)) is
given_closed m e name serve.CursorTaken s of o is = absurd of
given_closed m e name serve.TooManyCursors s of o is = absurd of
given_closed m e name serve.TooManyGroups s of o is = absurd of
given_closed m e name serve.NoSegment s of o is = absurd of
given_closed m e name serve.TooLarge s of o is = absurd of
given_closed m e name (serve.NotASegment part) s of o is = absurd of
given_closed m e name serve.ReadFault s of o is = absurd of

module _ (number : ℕ) (step : Files → Texts → Machine → After) (table : Table) (olds news : List OpenCursor) (i d m e : Seen) where
  gave_counted : (s : Stop) → IsGivenUp m e s → m.read_faults ≡ d.read_faults → m.write_faults ≡ d.write_faults
      → Counts (Err s) (record { inputs = i; depot = d }) (record { inputs = i; depot = e }) × StopIsCaused (record { inputs = i; depot = d }) (record { inputs = i; depot = e }) s
  gave_counted (stop.Refused line) g reads writes = (record { inputs = refl; depot_reads = g.reads ∙ reads; depot_writes = g.writes (λ e. cc) ∙ writes }, tt)
  gave_counted (stop.Fault fault.Read) g reads writes = absurd (g.no_read refl)
  gave_counted (stop.Fault fault.Write) g reads writes = ((refl, g.reads ∙ reads), subst (λ n. Rose n e.write_faults) writes (g.rose refl))
  gave_counted (stop.Fault fault.Memory) g reads writes = (record { inputs = refl; depot_reads = g.reads ∙ reads; depot_writes = g.writes (λ e. cc) ∙ writes }, tt)

  pub gave_up : {A : Type 0} (call : Machine → machine.After A) (mids : List OpenCursor) (part : Part) (s : Stop) → Serves call table olds mids d.held m.held (Err (serve.NotASegment part))
      → m.read_faults ≡ d.read_faults → m.write_faults ≡ d.write_faults → IsGivenUp m e s → AnswersSo step number table (record { inputs = i; depot = d }) (record { inputs = i; depot = e }) olds news (Err s)
  gave_up call mids part s serves reads writes g =
      let both = gave_counted s g reads writes in
      record {
        serves = where_told i.held d.held _ (λ given kept there told texts n stands all.
            none_such m.held (told_at d.held kept (λ files. (texts : Texts) (n : Machine) → ServingStands olds files texts table n → IsSomeAnd m.held (λ _. ⊥)) told serves texts n stands));
        given = refl;
        counted = both.0;
        caused = both.1;
      }

-- ---- a line that is the same as another

-- a line that answers as another one wherever files stand for a state
pub over_as : (number : ℕ) (one two : Files → Texts → Machine → After) (table : Table) (old new : Devices) (olds news : List OpenCursor) (result : Result (List ℕ) Stop)
    → ((given files : Files) (texts : Texts) (m : Machine) → ServingStands olds files texts table m → two given texts m ≡ one given texts m)
    → AnswersSo one number table old new olds news result → AnswersSo two number table old new olds news result
over_as number one two table old new olds news result same a = record {
  serves = where_told old.inputs.held old.depot.held _ (λ given files there told texts m stands all.
      some_map new.depot.held
      (λ left. IsAnswerOf (one given texts m) (StandsServed (number + 1) (record { table = Some table; cursors = news }) left) (Stands left (HasTable texts (segments_of m.live))) result)
      (λ left. IsAnswerOf (two given texts m) (StandsServed (number + 1) (record { table = Some table; cursors = news }) left) (Stands left (HasTable texts (segments_of m.live))) result)
      (λ left h. subst (λ x. IsAnswerOf x (StandsServed (number + 1) (record { table = Some table; cursors = news }) left) (Stands left (HasTable texts (segments_of m.live))) result) (sym (same given files texts m stands)) h)
      (told_at old.depot.held files _ told (told_at old.inputs.held given _ there a.serves) texts m stands all));
  given = a.given;
  counted = a.counted;
  caused = a.caused;
}
