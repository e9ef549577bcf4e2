-- The command `build` as a line: what it does is what the machine does.
use Rattle.std.proofs.Common.{◌≡◌, ◌≢◌, ◌∙◌, ◌+◌, ◌<◌, inl, inr, ℕ, Bool, true, false, cond, nat_le, List, [], ◌∷◌, length, map, Option, Some, None, IfSome, Result, Ok, Err, refl, sym, ap, subst, arith, is_some}
use Rattle.std.specs.Prelude.{IfErr, IsSomeAnd}
use Rattle.std.proofs.lemmas.Bool.Decides.{nat_tests}
use Rattle.std.proofs.lemmas.List.{length-map}
use Rattle.std.specs.FinMap as finite
use Rattle.outside.specs.Files.{Files}
use Rattle.outside.specs.Seen.{Seen}
use Rattle.values.specs.declared.value.Value.{Value}
use Rattle.table_schema.specs.declared.table.Table.{Table}
use Rattle.segment_file.specs.Image.{image}
use Rattle.segment_file.specs.Names.{file_of}
use Rattle.segment_file.specs.Ordered.{ordered}
use Rattle.table_store.specs.Stands.{Stands, segment_of as stored_segment}
use Rattle.table_store.specs.State.{HasTable, Segments, State, Texts}
use Rattle.table_store.proofs.AcceptedLemmas.{one_table}
use Rattle.table_store.proofs.StandsLemmas.{table_stands}
use Rattle.cursor_serve.specs.Machine as machine
use Rattle.cursor_serve.specs.Machine.{Live, Machine, lists_of, most_segments, with_list}
use Rattle.cursor_serve.specs.ServingStands.{OpenCursor, ServingStands, segments_of}
use Rattle.serving.proofs.OpenLemmas.{keys_live}
use Rattle.command_words.specs.Command.{Build as BuildCommand, Command, CsvFile, RowSource}
use Rattle.command_words.specs.ServeLine.{Build}
use Rattle.command_words.specs.declared.fault.Fault.{Fault}
use Rattle.command_words.specs.declared.fault.Fault.TheVariants as fault
use Rattle.command_words.specs.declared.note.Counted.TheVariants as counted
use Rattle.command_words.specs.declared.note.Note.{Note}
use Rattle.command_words.specs.declared.note.Note.TheVariants as note
use Rattle.command_words.specs.declared.stop.Stop.{Stop}
use Rattle.command_words.specs.declared.stop.Stop.TheVariants as stop
use Rattle.command_model.specs.Build.{IsBuilt, built_text, new_rows, rows_from, table_of}
use Rattle.command_model.specs.Ran.{Acted, Builds, Failed, IsStepped, Over as DoesOver, Ran, WhereStands}
use Rattle.command_model.specs.Step.{HasStep, Refuses, Replies, with_rows, with_table}
use Rattle.command_model.specs.World.{Devices}
use Rattle.command_model.proofs.MachineLemmas.{read_as, segment_lacks, segments_fewer}
use Rattle.serve_lines.specs.Calls.{AnswersOver, IsAnswerOf, StopIsCaused}
use Rattle.serve_lines.specs.Kept.{AreBefore, StandsServed}
use Rattle.serve_lines.specs.Step.{Serves as Over, built_of, built_over, by_machine, over_table}
use Rattle.serve_lines.proofs.BuildLemmas.{build_stands, free_live}
use Rattle.serve_lines.proofs.MachineLemmas.{before_next}
use Rattle.serve_lines.proofs.OverLemmas.{told_at, where_told}

-- there are as many segments as live lists
len_same : (live : Live) → finite.len (segments_of live) ≡ finite.len live
len_same live =
    finite.len-entries (segments_of live) ∙ sym (length-map (finite.entries (segments_of live)) (λ e. e.0)) ∙ ap length (keys_live live)
    ∙ length-map (lists_of live) (λ l. l.name) ∙ length-map (finite.entries live) (λ e. record { name = e.0; version = e.1 }) ∙ sym (finite.len-entries live)

fewer : (n : ℕ) → n < 512 → nat_le 512 n ≡ false
fewer n lt = grind (arith, nat_tests)

one_ok : {X E : Type 0} (x y : X) (r : Result X E) → r ≡ Ok x → r ≡ Ok y → x ≡ y
one_ok x y r p q = cc

-- where there is a place, the rows for a new segment are those of its file
new_is : (table : Table) (segments : Segments) (name : List ℕ) (source : RowSource) (given : Files) → finite.get segments name ≡ None → finite.len segments < 512 → new_rows table segments name source given ≡ rows_from table source given
new_is table segments name source given none few =
    ap (λ o. cond (is_some o) (Err (note.NameTaken name)) (cond (nat_le most_segments (finite.len segments)) (Err (note.TooLarge counted.Segments most_segments)) (rows_from table source given))) none
    ∙ ap (λ b. cond b (Err (note.TooLarge counted.Segments most_segments)) (rows_from table source given)) (fewer (finite.len segments) few)

module _ (number : ℕ) (name csv : List ℕ) (table : Table) (olds : List OpenCursor) (i d j e : Seen) where
  abbrev Old : Devices
  Old = record { inputs = i; depot = d }

  abbrev New : Devices
  New = record { inputs = j; depot = e }

  abbrev Asked : Option Command
  Asked = Some (BuildCommand name (CsvFile csv))

  module _ (given files : Files) (there : i.held ≡ Some given) (told : d.held ≡ Some files) (texts : Texts) (m : Machine) (s : ServingStands olds files texts table m) (all : AreBefore number m) where
    abbrev Segs : Segments
    Segs = segments_of m.live

    abbrev Found : Result (List (List Value)) Note
    Found = new_rows table Segs name (CsvFile csv) given

    abbrev Goal : Result (List ℕ) Stop → Type 0
    Goal result = IsSomeAnd e.held (λ left. IsAnswerOf (over_table number (Build name csv) given texts m) (StandsServed (number + 1) (record { table = Some table; cursors = olds }) left) (Stands left (HasTable texts Segs)) result)

    line_is : (found : Result (List (List Value)) Note) → Found ≡ found → over_table number (Build name csv) given texts m ≡ built_of texts name m table found
    line_is found is = ap (built_over texts name csv given m) (read_as texts table s.accepted) ∙ ap (built_of texts name m table) is

    step_is : (found : Result (List (List Value)) Note) → Found ≡ found → with_table texts Segs name (CsvFile csv) given (table_of texts) ≡ with_rows texts Segs name table found
    step_is found is = ap (with_table texts Segs name (CsvFile csv) given) (read_as texts table s.accepted) ∙ ap (with_rows texts Segs name table) is

    -- the machine puts the list in
    machine_puts : (rows : List (List Value)) → finite.get m.live name ≡ None → finite.len m.live < 512
        → machine.built name rows m ≡ record { answer = Ok tt; machine = with_list name rows m }
    machine_puts rows free few =
        ap (λ o. cond (is_some o) (machine.refused machine.NameTaken m) (cond (nat_le most_segments (finite.len m.live)) (machine.refused machine.TooManySegments m) (record { answer = Ok tt; machine = with_list name rows m }))) free
        ∙ ap (λ b. cond b (machine.refused machine.TooManySegments m) (record { answer = Ok tt; machine = with_list name rows m })) (fewer (finite.len m.live) few)

    -- the segment was published
    built_so : (text : List ℕ) (rows : List (List Value)) → Found ≡ Ok rows → text ≡ built_text name rows → IsBuilt given files name (CsvFile csv) text e.held
        → IsSomeAnd e.held (λ left. Stands left (HasTable texts (finite.insert Segs name (stored_segment table rows)))) → Goal (Ok text)
    built_so text rows found said b stands =
        let accepted = table_stands files texts Segs b.table s.live b.place.table_is in
        let same : b.table ≡ table = one_table texts b.table table accepted s.accepted in
        let free : finite.get Segs name ≡ None = segment_lacks files texts Segs s.live name b.place.free in
        let few : finite.len Segs < 512 = segments_fewer files texts Segs s.live b.place.room in
        let live_few : finite.len m.live < 512 = subst (λ n. n < 512) (len_same m.live) few in
        let own : b.rows ≡ rows = one_ok b.rows rows (rows_from table (CsvFile csv) given) (ap (λ t. rows_from t (CsvFile csv) given) (sym same) ∙ b.rows_are) (sym (new_is table Segs name (CsvFile csv) given free few) ∙ found) in
        let here : e.held ≡ Some (finite.insert files (file_of name) (image 1 table name rows)) = b.leaves ∙ ap (λ t. Some (finite.insert files (file_of name) (image 1 t name b.rows))) same ∙ ap (λ r. Some (finite.insert files (file_of name) (image 1 table name r))) own in
        let live = subst (λ o. IsSomeAnd o (λ left. Stands left (HasTable texts (finite.insert Segs name (stored_segment table rows))))) here stands in
        let after = build_stands olds files texts table m name rows s (free_live m.live name free) live in
        let puts = machine_puts (ordered table.settings.sorted rows) (free_live m.live name free) live_few in
        subst (λ o. IsSomeAnd o (λ left. IsAnswerOf (over_table number (Build name csv) given texts m) (StandsServed (number + 1) (record { table = Some table; cursors = olds }) left) (Stands left (HasTable texts Segs)) (Ok text))) (sym here)
        (subst (λ a. IsAnswerOf a (StandsServed (number + 1) (record { table = Some table; cursors = olds }) (finite.insert files (file_of name) (image 1 table name rows))) (Stands (finite.insert files (file_of name) (image 1 table name rows)) (HasTable texts Segs)) (Ok text))
        (sym (line_is (Ok rows) found ∙ ap (by_machine texts name (λ _. built_text name rows)) puts))
        (ap Replies (sym said), record { table = table; table_is = inr refl; stands = after; before = before_next number m.kept all }))

    -- or it was refused
    refused_so : (line : Note) → Found ≡ Err line → e.held ≡ d.held → Goal (Err (stop.Refused line))
    refused_so line found same =
        subst (λ o. IsSomeAnd o (λ left. IsAnswerOf (over_table number (Build name csv) given texts m) (StandsServed (number + 1) (record { table = Some table; cursors = olds }) left) (Stands left (HasTable texts Segs)) (Err (stop.Refused line)))) (sym (same ∙ told))
        (subst (λ a. IsAnswerOf a (StandsServed (number + 1) (record { table = Some table; cursors = olds }) files) (Stands files (HasTable texts Segs)) (Err (stop.Refused line))) (sym (line_is (Err line) found))
        (refl, record { table = table; table_is = inr refl; stands = s; before = before_next number m.kept all }))

    at_state : (P : State → Files → Type 0) → WhereStands i.held d.held P → P (HasTable texts Segs) given
    at_state P h = told_at d.held files (λ kept. (state : State) → Stands kept state → P state given) told (told_at i.held given (λ files. IfSome d.held (λ kept. (state : State) → Stands kept state → P state files)) there h) (HasTable texts Segs) s.live

    one_text : (x y : List ℕ) → Replies x ≡ Replies y → x ≡ y
    one_text x y e = cc

    ok_by : (text : List ℕ) (found : Result (List (List Value)) Note) → Found ≡ found → IsStepped (with_rows texts Segs name table found) (Replies text) e.held → IsBuilt given files name (CsvFile csv) text e.held → Goal (Ok text)
    ok_by text (Ok rows) is step b = built_so text rows is (one_text text (built_text name rows) step.answers) b step.stands
    ok_by text (Err line) is step b = absurd (none text line step.answers)
      where
        none : (text : List ℕ) (line : Note) → Replies text ≡ Refuses line → ⊥
        none text line e = cc

    err_by : (line : Note) (found : Result (List (List Value)) Note) → Found ≡ found → IsStepped (with_rows texts Segs name table found) (Refuses line) e.held → e.held ≡ d.held → Goal (Err (stop.Refused line))
    err_by line (Ok rows) is step same = absurd (none (built_text name rows) line step.answers)
      where
        none : (text : List ℕ) (line : Note) → Refuses line ≡ Replies text → ⊥
        none text line e = cc
    err_by line (Err other) is step same = subst (λ l. Goal (Err (stop.Refused l))) (sym (one_note line other step.answers)) (refused_so other is same)
      where
        one_note : (x y : Note) → Refuses x ≡ Refuses y → x ≡ y
        one_note x y e = cc

    answered : (result : Result (List ℕ) Stop) → Ran Asked Old New result → Goal result
    answered (Ok text) ran =
        let h = at_state (λ state files. HasStep state Asked files (λ after. IsStepped after (Replies text) e.held)) ran.ended.step in
        ok_by text Found refl (subst (λ x. IsStepped x (Replies text) e.held) (step_is Found refl) h.2)
        (told_at d.held files (λ files. Builds name (CsvFile csv) given files (Replies text) e.held) told (told_at i.held given (λ inputs. DoesOver Asked inputs d.held (Replies text) e.held) there ran.ended.over))
    answered (Err (stop.Refused line)) ran =
        let h = at_state (λ state files. HasStep state Asked files (λ after. IsStepped after (Refuses line) e.held)) ran.ended.step in
        err_by line Found refl (subst (λ x. IsStepped x (Refuses line) e.held) (step_is Found refl) h.2) ran.ended.allowed.2
    answered (Err (stop.Fault why)) ran = subst (λ o. IsSomeAnd o (λ left. Stands left (HasTable texts Segs))) (sym (ran.ended.kept ∙ told)) s.live

  caused_of : (result : Result (List ℕ) Stop) → Ran Asked Old New result → IfErr result (StopIsCaused Old New)
  caused_of (Ok text) ran = tt
  caused_of (Err (stop.Refused line)) ran = tt
  caused_of (Err (stop.Fault fault.Read)) ran = ran.ended.cause.1
  caused_of (Err (stop.Fault fault.Write)) ran = ran.ended.cause
  caused_of (Err (stop.Fault fault.Memory)) ran = tt

  -- the command as a line
  pub build_line : (result : Result (List ℕ) Stop) → Ran Asked Old New result → AnswersOver number (Build name csv) table Old New olds olds result
  build_line result ran = record {
    serves = where_told i.held d.held _ (λ given files there told texts m s all. answered given files there told texts m s all result ran);
    given = ap (λ (s : Seen). s.held) ran.touched.inputs.2 ∙ ran.touched.inputs.1.held;
    counted = ran.counted;
    caused = caused_of result ran;
  }
