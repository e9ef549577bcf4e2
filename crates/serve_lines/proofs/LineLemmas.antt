-- What a line answers, by whether there is a table and a cursor.
use Rattle.std.proofs.Common.{◌≡◌, ◌≢◌, ◌⊎◌, ◌∙◌, ◌+◌, inl, inr, ℕ, Bool, true, false, cond, List, [], Option, Some, None, IfSome, Result, Ok, Err, refl, sym, ap, subst}
use Rattle.std.specs.Prelude.{IfErr, IsSomeAnd}
use Rattle.std.specs.FinMap as finite
use Rattle.outside.specs.Counts.{Rose}
use Rattle.outside.specs.Files.{Files}
use Rattle.outside.specs.Seen.{Seen}
use Rattle.table_schema.specs.declared.table.Table.{Table}
use Rattle.table_store.specs.Stands.{Stands}
use Rattle.table_store.specs.State as store
use Rattle.table_store.specs.State.{Texts}
use Rattle.table_store.proofs.AcceptedLemmas.{one_table}
use Rattle.table_store.proofs.StandsLemmas.{none_there, table_stands}
use Rattle.cursor_serve.specs.Machine as machine
use Rattle.cursor_serve.specs.Machine.{Cursor, Machine, closed_by, fetched_by, stepped_by}
use Rattle.cursor_serve.specs.ServingStands.{BothKept, OpenCursor, ServingStands, kept_under, segments_of}
use Rattle.cursor_serve.proofs.SoundLemmas.{one_value}
use Rattle.command_words.specs.ServeLine.{Build, Close, Drop, Fetch, Open, Replace, ServeLine, Step}
use Rattle.command_words.specs.declared.fault.Fault.TheVariants as fault
use Rattle.command_words.specs.declared.note.Note.{Note}
use Rattle.command_words.specs.declared.note.Note.TheVariants as note
use Rattle.command_words.specs.declared.stop.Stop.{Stop}
use Rattle.command_words.specs.declared.stop.Stop.TheVariants as stop
use Rattle.command_model.specs.Gives.{LooksFor}
use Rattle.command_model.specs.Profile.{TableFile}
use Rattle.command_model.specs.Ran.{Counts, NoFaults}
use Rattle.command_model.specs.Step.{Refuses}
use Rattle.command_model.specs.Stored.{HasTableFile, TableRefuses}
use Rattle.command_model.specs.World.{Devices}
use Rattle.command_model.proofs.MachineLemmas.{none_refused, some_refused}
use Rattle.command_model.proofs.StoredLemmas.{table_segments}
use Rattle.serve_lines.specs.Calls.{AnswersLine, AnswersOver, FindsTable, IsAnswerOf, StopIsCaused, WhereTold}
use Rattle.serve_lines.specs.Kept.{AreBefore, IsServing, Kept, StandsServed, live_state}
use Rattle.serve_lines.specs.Step.{After, NoStore, Served, Serves, closed_text, by_machine, is_on_cursor, name_in, over_table, serve_step, stepped_text, unchanged, without_table}
use Rattle.serve_lines.proofs.MachineLemmas.{before_next}
use Rattle.serve_lines.proofs.OverLemmas.{told_at, where_told}

-- ---- from line to line

-- what stands for a state at one line does so at the next
pub next_stands : (number : ℕ) (kept : Kept) (files : Files) (state : Served) → StandsServed number kept files state → StandsServed (number + 1) kept files state
next_stands number kept files NoStore stands = stands
next_stands number kept files (Serves texts m) s = record { table = s.table; table_is = s.table_is; stands = s.stands; before = before_next number m.kept s.before }

-- the store stands for the lists that are live
pub live_stands : (number : ℕ) (kept : Kept) (files : Files) (state : Served) → StandsServed number kept files state → Stands files (live_state state)
live_stands number kept files NoStore s = s.stands
live_stands number kept files (Serves texts m) s = s.stands.live

-- ---- nothing was done

module _ (i d : Seen) where
  abbrev Still : Devices
  Still = record { inputs = i; depot = d }

  none_counted : NoFaults Still Still
  none_counted = record { inputs = refl; depot_reads = refl; depot_writes = refl }

  -- a refusal that changes nothing, of all that files stand for; or memory ran out
  refused_so : (number : ℕ) (line : Option ServeLine) (kept : Kept) (wrong : Note) (s : Stop) → (s ≡ stop.Refused wrong) ⊎ (s ≡ stop.Fault fault.Memory)
      → ((given files : Files) (state : Served) → StandsServed number kept files state → serve_step number line given state ≡ unchanged wrong state)
      → AnswersLine number line Still Still kept kept (Err s)
  refused_so number line kept wrong s (inl is) steps = subst (λ s. AnswersLine number line Still Still kept kept (Err s)) (sym is) (record {
    serves = where_told i.held d.held _ (λ given files there told state stands.
        subst (λ o. IsSomeAnd o (λ files. IsAnswerOf (serve_step number line given state) (StandsServed (number + 1) kept files) (Stands files (live_state state)) (Err (stop.Refused wrong)))) (sym told)
        (subst (λ a. IsAnswerOf a (StandsServed (number + 1) kept files) (Stands files (live_state state)) (Err (stop.Refused wrong))) (sym (steps given files state stands)) (refl, next_stands number kept files state stands)));
    given = refl;
    counted = none_counted;
    caused = tt;
  })
  refused_so number line kept wrong s (inr is) steps = subst (λ s. AnswersLine number line Still Still kept kept (Err s)) (sym is) (record {
    serves = where_told i.held d.held _ (λ given files there told state stands.
        subst (λ o. IsSomeAnd o (λ files. IsAnswerOf (serve_step number line given state) (StandsServed (number + 1) kept files) (Stands files (live_state state)) (Err (stop.Fault fault.Memory)))) (sym told)
        (live_stands number kept files state stands));
    given = refl;
    counted = none_counted;
    caused = tt;
  })

  -- words that are no line
  pub no_words : (number : ℕ) (kept : Kept) → AnswersLine number None Still Still kept kept (Err (stop.Refused note.BadWords))
  no_words number kept = refused_so number None kept note.BadWords (stop.Refused note.BadWords) (inl refl) (λ given files state stands. refl)

  -- memory ran out before anything was done
  pub no_memory : (number : ℕ) (line : Option ServeLine) (kept : Kept) → AnswersLine number line Still Still kept kept (Err (stop.Fault fault.Memory))
  no_memory number line kept = record {
    serves = where_told i.held d.held _ (λ given files there told state stands.
        subst (λ o. IsSomeAnd o (λ files. Stands files (live_state state))) (sym told) (live_stands number kept files state stands));
    given = refl;
    counted = none_counted;
    caused = tt;
  }

-- ---- no cursor

none_kept : (m : Machine) (o : Option Cursor) → BothKept m o None → o ≡ None
none_kept m None both = refl
none_kept m (Some cursor) both = absurd both

no_cursor_in : (number : ℕ) (line : ServeLine) (given files : Files) (texts : Texts) (m : Machine) → is_on_cursor line ≡ true → ((name : List ℕ) → finite.get m.cursors name ≡ None) → over_table number line given texts m ≡ unchanged (note.NoCursor (name_in line)) (Serves texts m)
no_cursor_in number (Open cursor sql) given files texts m is none = absurd cc
no_cursor_in number (Step cursor) given files texts m is none = ap (λ o. by_machine texts cursor (stepped_text cursor) (stepped_by cursor o m)) (none cursor)
no_cursor_in number (Fetch cursor) given files texts m is none = ap (λ o. by_machine texts cursor (λ text. text) (fetched_by cursor o m)) (none cursor)
no_cursor_in number (Close cursor) given files texts m is none = ap (λ o. by_machine texts cursor (λ _. closed_text cursor) (closed_by cursor o m)) (none cursor)
no_cursor_in number (Build name csv) given files texts m is none = absurd cc
no_cursor_in number (Drop name) given files texts m is none = absurd cc
no_cursor_in number (Replace name csv) given files texts m is none = absurd cc

cursor_steps : (number : ℕ) (line : ServeLine) (kept : Kept) (given files : Files) (state : Served) → is_on_cursor line ≡ true → kept.cursors ≡ [] → StandsServed number kept files state → serve_step number (Some line) given state ≡ unchanged (note.NoCursor (name_in line)) state
cursor_steps number line kept given files NoStore is none stands = ap (λ b. unchanged (cond b (note.NoCursor (name_in line)) note.NoTable) NoStore) is
cursor_steps number line kept given files (Serves texts m) is none s =
    no_cursor_in number line given files texts m is
    (λ name. none_kept m (finite.get m.cursors name) (subst (λ cs. BothKept m (finite.get m.cursors name) (kept_under name cs)) none (s.stands.cursors name)))

-- a line on a cursor, where there is none
pub no_cursor : (i d : Seen) (number : ℕ) (line : ServeLine) (kept : Kept) (s : Stop) → is_on_cursor line ≡ true → kept.cursors ≡ [] → (s ≡ stop.Refused (note.NoCursor (name_in line))) ⊎ (s ≡ stop.Fault fault.Memory)
    → AnswersLine number (Some line) (record { inputs = i; depot = d }) (record { inputs = i; depot = d }) kept kept (Err s)
no_cursor i d number line kept s is none of = refused_so i d number (Some line) kept (note.NoCursor (name_in line)) s of (λ given files state stands. cursor_steps number line kept given files state is none stands)

-- ---- the table was looked for

err_ok : (s : Stop) (r : Result (Unit {0}) Stop) → r ≡ Err s → r ≡ Ok tt → ⊥
err_ok s r p q = cc

module _ (number : ℕ) (line : ServeLine) (i d e : Seen) (cursors : List OpenCursor) where
  abbrev Before : Option Table → Kept
  Before table = record { table = table; cursors = cursors }

  refuses_by : (wrong : Note) (given files : Files) (state : Served) → is_on_cursor line ≡ false → TableRefuses files wrong → StandsServed number (Before None) files state
      → IsAnswerOf (serve_step number (Some line) given state) (StandsServed (number + 1) (Before None) files) (Stands files (live_state state)) (Err (stop.Refused wrong))
  refuses_by wrong given files NoStore is refuses s =
      (ap (λ b. Refuses (cond b (note.NoCursor (name_in line)) note.NoTable)) is ∙ sym (none_refused files s.stands wrong (table_segments files wrong refuses)), s)
  refuses_by wrong given files (Serves texts m) is refuses s = some_refused files texts (segments_of m.live) s.stands.live wrong (table_segments files wrong refuses)

  -- it was not found, or a look failed
  unfound_by : (s : Stop) → is_on_cursor line ≡ false → LooksFor {A = Table} HasTableFile TableRefuses TableFile d e (Err s)
      → AnswersLine number (Some line) (record { inputs = i; depot = d }) (record { inputs = i; depot = e }) (Before None) (Before None) (Err s)
  unfound_by (stop.Refused wrong) is looks = record {
    serves = where_told i.held d.held _ (λ given files there told state stands.
        subst (λ o. IsSomeAnd o (λ files. IsAnswerOf (serve_step number (Some line) given state) (StandsServed (number + 1) (Before None) files) (Stands files (live_state state)) (Err (stop.Refused wrong)))) (sym (looks.reads.held ∙ told))
        (refuses_by wrong given files state is (told_at d.held files (λ files. TableRefuses files wrong) told looks.stops.1) stands));
    given = refl;
    counted = record { inputs = refl; depot_reads = looks.reads.unchanged (λ e. cc); depot_writes = looks.reads.writes };
    caused = tt;
  }
  unfound_by (stop.Fault fault.Read) is looks = record {
    serves = where_told i.held d.held _ (λ given files there told state stands.
        subst (λ o. IsSomeAnd o (λ files. Stands files (live_state state))) (sym (looks.reads.held ∙ told)) (live_stands number (Before None) files state stands));
    given = refl;
    counted = looks.reads.writes;
    caused = inr (looks.reads.rose refl);
  }
  unfound_by (stop.Fault fault.Write) is looks = absurd looks.stops
  unfound_by (stop.Fault fault.Memory) is looks = record {
    serves = where_told i.held d.held _ (λ given files there told state stands.
        subst (λ o. IsSomeAnd o (λ files. Stands files (live_state state))) (sym (looks.reads.held ∙ told)) (live_stands number (Before None) files state stands));
    given = refl;
    counted = record { inputs = refl; depot_reads = looks.reads.unchanged (λ e. cc); depot_writes = looks.reads.writes };
    caused = tt;
  }

  pub unfound : (o left : Option Table) (s : Stop) → (o ≡ None → is_on_cursor line ≡ false) → FindsTable o d e left (Err s)
      → AnswersLine number (Some line) (record { inputs = i; depot = d }) (record { inputs = i; depot = e }) (Before o) (Before left) (Err s)
  unfound (Some table) left s is finds = absurd (err_ok s (Err s) refl finds.0)
  unfound None left s is finds = subst (λ o. AnswersLine number (Some line) (record { inputs = i; depot = d }) (record { inputs = i; depot = e }) (Before None) (Before o) (Err s)) (sym finds.0) (unfound_by s (is refl) finds.1)

-- ---- the table was found

-- counts of a call after a look are those of both
counts_after : (i j d m e : Seen) (result : Result (List ℕ) Stop) → m.read_faults ≡ d.read_faults → m.write_faults ≡ d.write_faults
    → Counts result (record { inputs = i; depot = m }) (record { inputs = j; depot = e }) → Counts result (record { inputs = i; depot = d }) (record { inputs = j; depot = e })
counts_after i j d m e (Ok text) reads writes c = record { inputs = c.inputs; depot_reads = c.depot_reads ∙ reads; depot_writes = c.depot_writes ∙ writes }
counts_after i j d m e (Err (stop.Refused line)) reads writes c = record { inputs = c.inputs; depot_reads = c.depot_reads ∙ reads; depot_writes = c.depot_writes ∙ writes }
counts_after i j d m e (Err (stop.Fault fault.Read)) reads writes c = c ∙ writes
counts_after i j d m e (Err (stop.Fault fault.Write)) reads writes c = (c.0, c.1 ∙ reads)
counts_after i j d m e (Err (stop.Fault fault.Memory)) reads writes c = record { inputs = c.inputs; depot_reads = c.depot_reads ∙ reads; depot_writes = c.depot_writes ∙ writes }

caused_after : (i j d m e : Seen) (result : Result (List ℕ) Stop) → m.read_faults ≡ d.read_faults → m.write_faults ≡ d.write_faults
    → IfErr result (StopIsCaused (record { inputs = i; depot = m }) (record { inputs = j; depot = e })) → IfErr result (StopIsCaused (record { inputs = i; depot = d }) (record { inputs = j; depot = e }))
caused_after i j d m e (Ok text) reads writes c = tt
caused_after i j d m e (Err (stop.Refused line)) reads writes c = tt
caused_after i j d m e (Err (stop.Fault fault.Read)) reads writes (inl rose) = inl rose
caused_after i j d m e (Err (stop.Fault fault.Read)) reads writes (inr rose) = inr (subst (λ n. Rose n e.read_faults) reads rose)
caused_after i j d m e (Err (stop.Fault fault.Write)) reads writes c = subst (λ n. Rose n e.write_faults) writes c
caused_after i j d m e (Err (stop.Fault fault.Memory)) reads writes c = tt

-- the table that was found, or was kept
pub record IsFound (o : Option Table) (d m : Seen) (table : Table) : Type 0 where
  pub held : m.held ≡ d.held
  pub reads : m.read_faults ≡ d.read_faults
  pub writes : m.write_faults ≡ d.write_faults
  pub is : (o ≡ Some table) ⊎ ((o ≡ None) × IfSome d.held (λ files. HasTableFile files table))

same_table : (x y : Table) → Some x ≡ Some y → x ≡ y
same_table = one_value

pub found_as : (o left : Option Table) (d m : Seen) (table : Table) → FindsTable o d m left (Ok tt) → left ≡ Some table → IsFound o d m table
found_as (Some t) left d m table (done, is, same) left_is = record {
  held = ap (λ s. s.held) same;
  reads = ap (λ s. s.read_faults) same;
  writes = ap (λ s. s.write_faults) same;
  is = inl (sym is ∙ left_is);
}
found_as None left d m table (t, is, valid, looks) left_is = record {
  held = looks.reads.held;
  reads = looks.reads.unchanged (λ e. e);
  writes = looks.reads.writes;
  is = inr (refl, subst (λ t. IfSome d.held (λ files. HasTableFile files t)) (same_table t table (sym is ∙ left_is)) looks.found);
}

module _ (number : ℕ) (line : ServeLine) (i j d m e : Seen) (cursors news : List OpenCursor) (o : Option Table) (table : Table) (found : IsFound o d m table) where
  abbrev Kept_before : Kept
  Kept_before = record { table = o; cursors = cursors }

  -- the files stand for a state over this table
  stands_over : {A : Type 0} (files : Files) (state : Served) → d.held ≡ Some files → StandsServed number Kept_before files state
      → ((texts : Texts) (n : Machine) → state ≡ Serves texts n → ServingStands cursors files texts table n → IsServing number Kept_before files texts n → A) → A
  stands_over files NoStore told s f = elim found.is [
    | inl is ↦ absurd (none_some table (sym s.table_is ∙ is))
    | inr is ↦ let (bytes, got, read) = told_at d.held files (λ files. HasTableFile files table) told is.1 in none_there files s.stands (bytes, got)
  ]
    where
      none_some : (t : Table) → None ≡ Some t → ⊥
      none_some t e = cc
  stands_over files (Serves texts n) told s f = f texts n refl (subst (λ t. ServingStands cursors files texts t n) (same s found.is s.table_is) s.stands) s
    where
      same : (s : IsServing number Kept_before files texts n) → (o ≡ Some table) ⊎ ((o ≡ None) × IfSome d.held (λ files. HasTableFile files table)) → (o ≡ None) ⊎ (o ≡ Some s.table) → s.table ≡ table
      same s (inl is) (inl none) = absurd (some_none table (sym is ∙ none))
        where
          some_none : (t : Table) → Some t ≡ None → ⊥
          some_none t e = cc
      same s (inl is) (inr kept) = same_table s.table table (sym kept ∙ is)
      same s (inr is) kept = one_table texts s.table table s.stands.accepted (table_stands files texts (segments_of n.live) table s.stands.live (told_at d.held files (λ files. HasTableFile files table) told is.1))

  -- what a line answers over it, it answers
  pub found_line : (result : Result (List ℕ) Stop) → AnswersOver number line table (record { inputs = i; depot = m }) (record { inputs = j; depot = e }) cursors news result
      → AnswersLine number (Some line) (record { inputs = i; depot = d }) (record { inputs = j; depot = e }) Kept_before (record { table = Some table; cursors = news }) result
  found_line result over = record {
    serves = where_told i.held d.held _ (λ given files there told state stands.
        stands_over files state told stands (λ texts n is serving s.
        subst (λ state. IsSomeAnd e.held (λ files. IsAnswerOf (serve_step number (Some line) given state) (StandsServed (number + 1) (record { table = Some table; cursors = news }) files) (Stands files (live_state state)) result)) (sym is)
        (told_over given files there (found.held ∙ told) texts n serving s.before)));
    given = over.given;
    counted = counts_after i j d m e result found.reads found.writes over.counted;
    caused = caused_after i j d m e result found.reads found.writes over.caused;
  }
    where
      told_over : (given files : Files) → i.held ≡ Some given → m.held ≡ Some files → (texts : Texts) (n : Machine) → ServingStands cursors files texts table n → AreBefore number n
          → IsSomeAnd e.held (λ left. IsAnswerOf (over_table number line given texts n) (StandsServed (number + 1) (record { table = Some table; cursors = news }) left) (Stands left (store.HasTable texts (segments_of n.live))) result)
      told_over given files there told =
          told_at m.held files _ told (told_at i.held given _ there over.serves)
