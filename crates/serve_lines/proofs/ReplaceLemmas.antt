-- Other rows come in the place of those of a segment, as a line asks for it.
use Rattle.std.proofs.Common.{◌≡◌, ◌≢◌, ◌⊎◌, ◌∙◌, ◌+◌, ◌<◌, ◌^◌, inl, inr, ℕ, Bool, true, false, cond, List, [], length, Option, Some, None, IfSome, IfOk, option_map, Result, Ok, Err, refl, sym, ap, subst, arith, is_some}
use Rattle.std.specs.Prelude.{IfErr, IsSomeAnd}
use Rattle.std.specs.FinMap as finite
use Rattle.outside.specs.Counts.{Rose}
use Rattle.outside.specs.Files.{Files, Lacks, name_order}
use Rattle.outside.specs.Seen.{Seen}
use Rattle.values.specs.declared.value.Value.{Value}
use Rattle.table_schema.specs.declared.table.Table.{Table}
use Rattle.segment_build.specs.Growing.{TreesFit, trees_fit}
use Rattle.segment_file.specs.Ordered.{ordered}
use Rattle.table_store.specs.Kept.{kept_name}
use Rattle.table_store.specs.Segments.{HasSegment, LacksSegment}
use Rattle.table_store.specs.Stands.{Stands}
use Rattle.table_store.specs.State.{HasTable, Texts}
use Rattle.cursor_serve.specs.Machine as machine
use Rattle.cursor_serve.specs.Machine.{Machine, Version, replaced}
use Rattle.cursor_serve.specs.ServingStands.{OpenCursor, ServingStands, segment_of, segments_of}
use Rattle.serving.specs.Calls.{HasNoPlaceFor, IsAnsweredAs, Serves}
use Rattle.serving.specs.Faults.{IsDropFault, IsReplaceFault}
use Rattle.serving.specs.declared.fault.ServeFault.{ServeFault}
use Rattle.serving.specs.declared.fault.ServeFault.TheVariants as serve
use Rattle.command_words.specs.Command.{CsvFile}
use Rattle.command_words.specs.ServeLine.{Replace}
use Rattle.command_words.specs.declared.fault.Fault.{Fault}
use Rattle.command_words.specs.declared.fault.Fault.TheVariants as fault
use Rattle.command_words.specs.declared.note.Counted.TheVariants as counted
use Rattle.command_words.specs.declared.note.Note.{Note}
use Rattle.command_words.specs.declared.note.Note.TheVariants as note
use Rattle.command_words.specs.declared.stop.Stop.{Stop}
use Rattle.command_words.specs.declared.stop.Stop.TheVariants as stop
use Rattle.command_model.specs.Build.{csv_rows, fitting, rows_from}
use Rattle.command_model.specs.Gives.{StopsRows}
use Rattle.command_model.specs.Profile.{tree_limit}
use Rattle.command_model.specs.Ran.{Counts}
use Rattle.command_model.specs.Step.{Replies}
use Rattle.command_model.specs.World.{Devices}
use Rattle.command_model.proofs.MachineLemmas.{read_as, segment_lacks, segment_taken}
use Rattle.command_model.proofs.RowsLemmas.{fitting_all, fitting_large, fitting_none}
use Rattle.serve_lines.specs.Calls.{AnswersOver, FindsSegment, IsAnswerOf, IsServeStop, StopIsCaused}
use Rattle.serve_lines.specs.Kept.{AreBefore, StandsServed}
use Rattle.serve_lines.specs.Step.{After, Serves as Over, by_machine, over_table, replaced_of, replaced_over, replaced_text, said, unchanged}
use Rattle.serving.proofs.OpenLemmas.{segments_got}
use Rattle.serve_lines.proofs.BuildLemmas.{free_live}
use Rattle.serve_lines.proofs.FreshLemmas.{kept_lacks}
use Rattle.serve_lines.proofs.MachineLemmas.{before_next, replaced_before}
use Rattle.serve_lines.proofs.OverLemmas.{HasCounts, none_such, some_map, told_at, where_told}

-- results of a call that has none
abbrev failing : ServeFault → Result (Unit {0}) ServeFault
failing why = Err why

abbrev done_result : Result (Unit {0}) ServeFault
done_result = Ok tt

abbrev too_large_result : Result (Unit {0}) ServeFault
too_large_result = Err serve.TooLarge

there_live : (live : finite.FinMap name_order Version) (name : List ℕ) → is_some (finite.get (segments_of live) name) ≡ true → is_some (finite.get live name) ≡ true
there_live live name is = by (finite.get live name) (sym (ap is_some (segments_got live name)) ∙ is)
  where
    by : (o : Option Version) → is_some (option_map segment_of o) ≡ true → is_some o ≡ true
    by None is = is
    by (Some version) is = refl

module _ (number : ℕ) (name csv : List ℕ) (table : Table) (olds : List OpenCursor) where
  abbrev Line : Files → Texts → Machine → After
  Line = over_table number (Replace name csv)

  -- the line by whether there is a segment of the name
  replaced_by : (given files : Files) (texts : Texts) (m : Machine) (b : Bool) → ServingStands olds files texts table m → is_some (finite.get m.live name) ≡ b
      → Line given texts m ≡ cond b (replaced_of number texts name m table (rows_from table (CsvFile csv) given)) (unchanged (note.NoSegment name) (Over texts m))
  replaced_by given files texts m b s is =
      ap (replaced_over number texts name csv given m) (read_as texts table s.accepted)
      ∙ ap (λ b. cond b (replaced_of number texts name m table (rows_from table (CsvFile csv) given)) (unchanged (note.NoSegment name) (Over texts m))) is

  missing_is : (given files : Files) (texts : Texts) (m : Machine) → ServingStands olds files texts table m → LacksSegment (Some files) name → Line given texts m ≡ unchanged (note.NoSegment name) (Over texts m)
  missing_is given files texts m s lacks = replaced_by given files texts m false s (ap is_some (free_live m.live name (segment_lacks files texts (segments_of m.live) s.live name lacks)))

  there_is : (given files : Files) (texts : Texts) (m : Machine) → ServingStands olds files texts table m → HasSegment (Some files) name → (found : Result (List (List Value)) Note) → rows_from table (CsvFile csv) given ≡ found
      → Line given texts m ≡ replaced_of number texts name m table found
  there_is given files texts m s has found is =
      replaced_by given files texts m true s (there_live m.live name (segment_taken files texts (segments_of m.live) s.live name has))
      ∙ ap (replaced_of number texts name m table) is

  -- ---- refused

  module _ (i j d m : Seen) (held : m.held ≡ d.held) (writes : m.write_faults ≡ d.write_faults) where
    abbrev Old : Devices
    Old = record { inputs = i; depot = d }

    abbrev New : Devices
    New = record { inputs = j; depot = m }

    -- a refusal that changes nothing
    refused_so : (line : Note) → j.held ≡ i.held → j.read_faults ≡ i.read_faults → m.read_faults ≡ d.read_faults
        → ((given files : Files) → i.held ≡ Some given → d.held ≡ Some files → (texts : Texts) (n : Machine) → ServingStands olds files texts table n → Line given texts n ≡ unchanged line (Over texts n))
        → AnswersOver number (Replace name csv) table Old New olds olds (Err (stop.Refused line))
    refused_so line same input_reads reads steps = record {
      serves = where_told i.held d.held _ (λ given files there told texts n s all.
          subst (λ o. IsSomeAnd o (λ left. IsAnswerOf (Line given texts n) (StandsServed (number + 1) (record { table = Some table; cursors = olds }) left) (Stands left (HasTable texts (segments_of n.live))) (Err (stop.Refused line)))) (sym (held ∙ told))
          (subst (λ a. IsAnswerOf a (StandsServed (number + 1) (record { table = Some table; cursors = olds }) files) (Stands files (HasTable texts (segments_of n.live))) (Err (stop.Refused line))) (sym (steps given files there told texts n s))
          (refl, record { table = table; table_is = inr refl; stands = s; before = before_next number n.kept all })));
      given = same;
      counted = record { inputs = input_reads; depot_reads = reads; depot_writes = writes };
      caused = tt;
    }

    -- a fault
    failed_so : (why : Fault) → j.held ≡ i.held → Counts (Err (stop.Fault why)) Old New → StopIsCaused Old New (stop.Fault why) → AnswersOver number (Replace name csv) table Old New olds olds (Err (stop.Fault why))
    failed_so why same counts caused = record {
      serves = where_told i.held d.held _ (λ given files there told texts n s all. subst (λ o. IsSomeAnd o (λ left. Stands left (HasTable texts (segments_of n.live)))) (sym (held ∙ told)) s.live);
      given = same;
      counted = counts;
      caused = caused;
    }

  -- there is no segment of the name, or a look failed
  pub replace_missing : (i d m : Seen) (s : Stop) → FindsSegment name d m (Err s) → AnswersOver number (Replace name csv) table (record { inputs = i; depot = d }) (record { inputs = i; depot = m }) olds olds (Err s)
  replace_missing i d m (stop.Refused line) f = subst (λ l. AnswersOver number (Replace name csv) table (record { inputs = i; depot = d }) (record { inputs = i; depot = m }) olds olds (Err (stop.Refused l))) (sym f.stops.0)
      (refused_so i i d m f.reads.held f.reads.writes (note.NoSegment name) refl refl (f.reads.unchanged (λ e. cc))
      (λ given files there told texts n s. missing_is given files texts n s (subst (λ o. LacksSegment o name) told f.stops.1)))
  replace_missing i d m (stop.Fault fault.Read) f = failed_so i i d m f.reads.held f.reads.writes fault.Read refl f.reads.writes (inr (f.reads.rose refl))
  replace_missing i d m (stop.Fault fault.Write) f = absurd f.stops
  replace_missing i d m (stop.Fault fault.Memory) f = failed_so i i d m f.reads.held f.reads.writes fault.Memory refl (record { inputs = refl; depot_reads = f.reads.unchanged (λ e. cc); depot_writes = f.reads.writes }) tt

  -- there are no rows for it, or a read failed
  pub replace_unread : (i j d m : Seen) (s : Stop) → FindsSegment name d m (Ok tt) → j.held ≡ i.held → (s ≢ stop.Fault fault.Read → j.read_faults ≡ i.read_faults) → StopsRows table.schema.fields csv i.held (Rose i.read_faults j.read_faults) s
      → AnswersOver number (Replace name csv) table (record { inputs = i; depot = d }) (record { inputs = j; depot = m }) olds olds (Err s)
  replace_unread i j d m (stop.Refused line) f same reads (of, rows) = refused_so i j d m f.reads.held f.reads.writes line same (reads (λ e. cc)) (f.reads.unchanged (λ e. e))
      (λ given files there told texts n s.
      there_is given files texts n s (subst (λ o. HasSegment o name) told f.there) (Err line)
      (fitting_none table (csv_rows table.schema.fields csv (finite.get given csv)) line (told_at i.held given (λ files. csv_rows table.schema.fields csv (finite.get files csv) ≡ Err line) there rows)))
  replace_unread i j d m (stop.Fault fault.Read) f same reads rose = failed_so i j d m f.reads.held f.reads.writes fault.Read same f.reads.writes (inl rose)
  replace_unread i j d m (stop.Fault fault.Write) f same reads none = absurd none
  replace_unread i j d m (stop.Fault fault.Memory) f same reads ok = failed_so i j d m f.reads.held f.reads.writes fault.Memory same (record { inputs = reads (λ e. cc); depot_reads = f.reads.unchanged (λ e. e); depot_writes = f.reads.writes }) tt

  -- ---- replaced

  module _ (rows : List (List Value)) (i j d m e : Seen) (news : List OpenCursor) (f : FindsSegment name d m (Ok tt)) (small : number < 2 ^ 32)
      (rows_are : IfSome i.held (λ files. csv_rows table.schema.fields csv (finite.get files csv) ≡ Ok rows)) (same : j.held ≡ i.held) (reads : j.read_faults ≡ i.read_faults) where
    abbrev Put : List (List Value)
    Put = ordered table.settings.sorted rows

    abbrev Call : Result (Unit {0}) ServeFault → Type 0
    Call r = Lacks m.held (kept_name name number) → Serves (replaced number name Put) table olds news m.held e.held r

    abbrev Answer : Result (List ℕ) Stop → Type 0
    Answer answer = AnswersOver number (Replace name csv) table (record { inputs = i; depot = d }) (record { inputs = j; depot = e }) olds news answer

    lacks_at : (files : Files) → m.held ≡ Some files → (texts : Texts) (n : Machine) → ServingStands olds files texts table n → AreBefore number n → Lacks m.held (kept_name name number)
    lacks_at files told texts n s all = subst (λ o. Lacks o (kept_name name number)) (sym told) (kept_lacks number name olds files texts table n (omega (arith, small)) s all)

    -- the machine has the list that goes
    answers_ok : (n : Machine) (o : Option Version) → finite.get n.live name ≡ o → is_some o ≡ true → (replaced number name Put n).answer ≡ Ok tt
    answers_ok n None got is = cc
    answers_ok n (Some version) got is = ap (λ o. (machine.replaced_by number name Put o n).answer) got

    live_there : (files : Files) → d.held ≡ Some files → (texts : Texts) (n : Machine) → ServingStands olds files texts table n → is_some (finite.get n.live name) ≡ true
    live_there files told texts n s = there_live n.live name (segment_taken files texts (segments_of n.live) s.live name (subst (λ o. HasSegment o name) told f.there))

    fault_counts : (r : Result (Unit {0}) ServeFault) → HasCounts m e r → (r ≢ Err serve.ReadFault → e.read_faults ≡ d.read_faults) × (r ≢ Err serve.WriteFault → e.write_faults ≡ d.write_faults)
    fault_counts r c = (λ no. c.reads no ∙ f.reads.unchanged (λ e. e), λ no. c.writes no ∙ f.reads.writes)

    -- the segment was replaced
    pub replace_done : Call done_result → HasCounts m e done_result → trees_fit table rows ≡ true → (text : List ℕ) → text ≡ replaced_text name (length rows) → Answer (Ok text)
    replace_done call c fit text text_is = record {
      serves = where_told i.held d.held _ (λ given files there told texts n s all.
          let here : m.held ≡ Some files = f.reads.held ∙ told in
          let line : Line given texts n ≡ replaced_of number texts name n table (Ok rows) = there_is given files texts n s (subst (λ o. HasSegment o name) told f.there) (Ok rows)
          (fitting_all table (csv_rows table.schema.fields csv (finite.get given csv)) rows (told_at i.held given (λ files. csv_rows table.schema.fields csv (finite.get files csv) ≡ Ok rows) there rows_are) fit) in
          some_map e.held _ (λ left. IsAnswerOf (Line given texts n) (StandsServed (number + 1) (record { table = Some table; cursors = news }) left) (Stands left (HasTable texts (segments_of n.live))) (Ok text))
          (λ left h. subst (λ a. IsAnswerOf a (StandsServed (number + 1) (record { table = Some table; cursors = news }) left) (Stands left (HasTable texts (segments_of n.live))) (Ok text)) (sym line)
          (ap (said name (λ _. replaced_text name (length rows))) h.0 ∙ ap Replies (sym text_is), record { table = table; table_is = inr refl; stands = h.1; before = replaced_before number name Put n all }))
          (told_at m.held files (λ files. (texts : Texts) (n : Machine) → ServingStands olds files texts table n → IsSomeAnd e.held (λ left. IsAnsweredAs (replaced number name Put n) (ServingStands news left texts table) (Stands left (HasTable texts (segments_of n.live))) done_result)) here (call (lacks_at files here texts n s all)) texts n s));
      given = same;
      counted = record { inputs = reads; depot_reads = (fault_counts done_result c).0 (λ e. cc); depot_writes = (fault_counts done_result c).1 (λ e. cc) };
      caused = tt;
    }

    -- a star-tree of the rows is too large
    replace_large : (Lacks m.held (kept_name name number) → HasNoPlaceFor rows name table olds news m.held e.held) → HasCounts m e too_large_result → (s : Stop) → s ≡ stop.Refused (note.TooLarge counted.TreeBytes tree_limit) → Answer (Err s)
    replace_large none c s is = subst (λ s. Answer (Err s)) (sym is) (record {
      serves = where_told i.held d.held _ (λ given files there told texts n s all.
          let here : m.held ≡ Some files = f.reads.held ∙ told in
          let place = none (lacks_at files here texts n s all) in
          let line : Line given texts n ≡ replaced_of number texts name n table (Err (note.TooLarge counted.TreeBytes tree_limit)) = there_is given files texts n s (subst (λ o. HasSegment o name) told f.there) (Err (note.TooLarge counted.TreeBytes tree_limit))
          (fitting_large table (csv_rows table.schema.fields csv (finite.get given csv)) rows (told_at i.held given (λ files. csv_rows table.schema.fields csv (finite.get files csv) ≡ Ok rows) there rows_are) place.too_large) in
          some_map e.held (λ left. (is_some (finite.get n.live name) ≡ true) × ServingStands news left texts table n)
          (λ left. IsAnswerOf (Line given texts n) (StandsServed (number + 1) (record { table = Some table; cursors = news }) left) (Stands left (HasTable texts (segments_of n.live))) (Err (stop.Refused (note.TooLarge counted.TreeBytes tree_limit))))
          (λ left h. subst (λ a. IsAnswerOf a (StandsServed (number + 1) (record { table = Some table; cursors = news }) left) (Stands left (HasTable texts (segments_of n.live))) (Err (stop.Refused (note.TooLarge counted.TreeBytes tree_limit)))) (sym line)
          (refl, record { table = table; table_is = inr refl; stands = h.1; before = before_next number n.kept all }))
          (told_at m.held files (λ files. (texts : Texts) (n : Machine) → ServingStands olds files texts table n → IsSomeAnd e.held (λ left. (is_some (finite.get n.live name) ≡ true) × ServingStands news left texts table n)) here place.unchanged texts n s));
      given = same;
      counted = record { inputs = reads; depot_reads = c.reads (λ e. cc) ∙ f.reads.unchanged (λ e. e); depot_writes = c.writes (λ e. cc) ∙ f.reads.writes };
      caused = tt;
    })

    -- a fault leaves the lists that were live
    faults_live : (files : Files) → m.held ≡ Some files → (why : ServeFault) → Call (Err why) → (texts : Texts) (n : Machine) → ServingStands olds files texts table n → AreBefore number n
        → IsSomeAnd e.held (λ left. IsAnsweredAs (replaced number name Put n) (ServingStands news left texts table) (Stands left (HasTable texts (segments_of n.live))) (Err why))
    faults_live files told why call texts n s all =
        told_at m.held files (λ files. (texts : Texts) (n : Machine) → ServingStands olds files texts table n → IsSomeAnd e.held (λ left. IsAnsweredAs (replaced number name Put n) (ServingStands news left texts table) (Stands left (HasTable texts (segments_of n.live))) (Err why))) told
        (call (lacks_at files told texts n s all)) texts n s

    fault_so : (why : Fault) → ((files : Files) → d.held ≡ Some files → (texts : Texts) (n : Machine) → ServingStands olds files texts table n → AreBefore number n → IsSomeAnd e.held (λ left. Stands left (HasTable texts (segments_of n.live))))
        → Counts (Err (stop.Fault why)) (record { inputs = i; depot = d }) (record { inputs = j; depot = e }) → StopIsCaused (record { inputs = i; depot = d }) (record { inputs = j; depot = e }) (stop.Fault why) → Answer (Err (stop.Fault why))
    fault_so why live counts caused = record {
      serves = where_told i.held d.held _ (λ given files there told texts n s all. live files told texts n s all);
      given = same;
      counted = counts;
      caused = caused;
    }

    ended : (s : Stop) (why : Fault) → s ≡ stop.Fault why → Answer (Err (stop.Fault why)) → Answer (Err s)
    ended s why is a = subst (λ s. Answer (Err s)) (sym is) a

    -- the segment that is there is not missed by the machine
    not_missed : (files : Files) → d.held ≡ Some files → (texts : Texts) (n : Machine) → ServingStands olds files texts table n → (o : Option Version) → finite.get n.live name ≡ o → (machine.replaced_by number name Put o n).answer ≡ Err machine.NoSegment → ⊥
    not_missed files told texts n s None got is = some_none (finite.get n.live name) (live_there files told texts n s) got
      where
        some_none : (o : Option Version) → is_some o ≡ true → o ≡ None → ⊥
        some_none None p q = cc
        some_none (Some v) p q = cc
    not_missed files told texts n s (Some version) got is = cc

    replace_failed : (why : ServeFault) (s : Stop) → IsDropFault why → Call (Err why) → HasCounts m e (failing why) → IsServeStop name why s → Answer (Err s)
    replace_failed serve.ReadFault s of call c is = ended s fault.Read is (fault_so fault.Read (λ files told texts n s all. faults_live files (f.reads.held ∙ told) serve.ReadFault call texts n s all)
        (c.writes (λ e. cc) ∙ f.reads.writes) (inr (subst (λ n. Rose n e.read_faults) (f.reads.unchanged (λ e. e)) (c.read_rose refl))))
    replace_failed serve.WriteFault s of call c is = ended s fault.Write is (fault_so fault.Write (λ files told texts n s all. faults_live files (f.reads.held ∙ told) serve.WriteFault call texts n s all)
        (reads, c.reads (λ e. cc) ∙ f.reads.unchanged (λ e. e)) (subst (λ n. Rose n e.write_faults) f.reads.writes (c.write_rose refl)))
    replace_failed serve.NoMemory s of call c is = ended s fault.Memory is (fault_so fault.Memory (λ files told texts n s all. faults_live files (f.reads.held ∙ told) serve.NoMemory call texts n s all)
        (record { inputs = reads; depot_reads = c.reads (λ e. cc) ∙ f.reads.unchanged (λ e. e); depot_writes = c.writes (λ e. cc) ∙ f.reads.writes }) tt)
    replace_failed serve.NoSegment s of call c is = missed s is
      where
        missed_live : (files : Files) → d.held ≡ Some files → (texts : Texts) (n : Machine) → ServingStands olds files texts table n → AreBefore number n → {A : Type 0} → A
        missed_live files told texts n s all = none_such e.held (some_map e.held _ (λ _. ⊥) (λ left h. not_missed files told texts n s (finite.get n.live name) refl h.0) (faults_live files (f.reads.held ∙ told) serve.NoSegment call texts n s all))

        missed : (s : Stop) → (s ≡ stop.Refused (note.NoSegment name)) ⊎ (s ≡ stop.Fault fault.Memory) → Answer (Err s)
        missed s (inl is) = subst (λ s. Answer (Err s)) (sym is) (record {
          serves = where_told i.held d.held _ (λ given files there told texts n s all. missed_live files told texts n s all);
          given = same;
          counted = record { inputs = reads; depot_reads = c.reads (λ e. cc) ∙ f.reads.unchanged (λ e. e); depot_writes = c.writes (λ e. cc) ∙ f.reads.writes };
          caused = tt;
        })
        missed s (inr is) = ended s fault.Memory is (fault_so fault.Memory (λ files told texts n s all. missed_live files told texts n s all)
            (record { inputs = reads; depot_reads = c.reads (λ e. cc) ∙ f.reads.unchanged (λ e. e); depot_writes = c.writes (λ e. cc) ∙ f.reads.writes }) tt)
    replace_failed serve.TooLarge s of call c is = absurd of
    replace_failed (serve.NotASegment part) s of call c is = absurd of
    replace_failed serve.CursorTaken s of call c is = absurd of
    replace_failed serve.TooManyCursors s of call c is = absurd of
    replace_failed serve.NoCursor s of call c is = absurd of
    replace_failed serve.TooManyGroups s of call c is = absurd of

    other_fault : (why : ServeFault) → IsDropFault why → failing why ≡ Err serve.TooLarge → ⊥
    other_fault serve.TooLarge of e = of
    other_fault serve.NoSegment of e = cc
    other_fault serve.ReadFault of e = cc
    other_fault serve.WriteFault of e = cc
    other_fault serve.NoMemory of e = cc
    other_fault (serve.NotASegment part) of e = absurd of
    other_fault serve.CursorTaken of e = absurd of
    other_fault serve.TooManyCursors of e = absurd of
    other_fault serve.NoCursor of e = absurd of
    other_fault serve.TooManyGroups of e = absurd of

    -- the call failed or was refused
    pub replace_not : (why : ServeFault) (s : Stop) → IsReplaceFault why → (Lacks m.held (kept_name name number) → failing why ≢ Err serve.TooLarge → Serves (replaced number name Put) table olds news m.held e.held (failing why))
        → (Lacks m.held (kept_name name number) → failing why ≡ Err serve.TooLarge → HasNoPlaceFor rows name table olds news m.held e.held) → HasCounts m e (failing why) → IsServeStop name why s → Answer (Err s)
    replace_not serve.TooLarge s of call large c is = replace_large (λ lacks. large lacks refl) c s is
    replace_not serve.NoSegment s of call large c is = replace_failed serve.NoSegment s of (λ lacks. call lacks (other_fault serve.NoSegment of)) c is
    replace_not serve.ReadFault s of call large c is = replace_failed serve.ReadFault s of (λ lacks. call lacks (other_fault serve.ReadFault of)) c is
    replace_not serve.WriteFault s of call large c is = replace_failed serve.WriteFault s of (λ lacks. call lacks (other_fault serve.WriteFault of)) c is
    replace_not serve.NoMemory s of call large c is = replace_failed serve.NoMemory s of (λ lacks. call lacks (other_fault serve.NoMemory of)) c is
    replace_not (serve.NotASegment part) s of call large c is = absurd of
    replace_not serve.CursorTaken s of call large c is = absurd of
    replace_not serve.TooManyCursors s of call large c is = absurd of
    replace_not serve.NoCursor s of call large c is = absurd of
    replace_not serve.TooManyGroups s of call large c is = absurd of
