-- The segments of a state on the way have the rows that were ingested, and a query answers them.
use Rattle.std.proofs.Common.{◌≡◌, ◌≢◌, ◌⊎◌, ◌∙◌, inl, inr, ℕ, Bool, true, false, List, [], ◌∷◌, ◌++◌, ◌<◌, nat_le, Option, Some, None, Result, Ok, Err, IsSomeAnd, cond, if◌then◌else◌, arith, refl, sym, ap, subst}
use Rattle.std.specs.Prelude.{flat_map, is_some, map as each}
use Rattle.std.specs.FinMap as map
use Rattle.std.specs.Cmp.{eq_by_cmp_equiv}
use Rattle.std.proofs.lemmas.Cmp.{nat_list_cmp_total}
use Rattle.std.proofs.lemmas.Bool.Decides.{nat_tests}
use Rattle.outside.specs.Files.{Files, name_order}
use Rattle.values.specs.declared.value.Value.{Value}
use Rattle.table_schema.specs.declared.table.Table.{Table}
use Rattle.sql_reply.specs.Asked.{Asked, asked}
use Rattle.sql_reply.specs.SqlReply.{SqlReply, sql_reply}
use Rattle.sql_reply.proofs.AskedLemmas.{unasked_none}
use Rattle.sql_reply.specs.declared.fault.SqlFault.{SqlFault}
use Rattle.query_executor.specs.Lines.{lines_of, stats_line}
use Rattle.query_executor.specs.Stated.{stated_by}
use Rattle.table_store.specs.Accepted.{IsAccepted}
use Rattle.table_store.specs.Stands.{segment_of}
use Rattle.table_store.specs.State.{HasTable, NoTable, Segment, Segments, State, Texts}
use Rattle.table_store.proofs.DropLemmas.{got_left, got_none}
use Rattle.table_store.proofs.FilesLemmas.{other_name}
use Rattle.table_store.proofs.NameLemmas.{is_name}
use Rattle.command_words.specs.Command.{Ask, Attach, Build, Command, Create, Drop, Listing, Look, Open, RowSource, Scan}
use Rattle.command_words.specs.declared.about.About.TheVariants.{Rows, RowsAndPlans}
use Rattle.command_words.specs.declared.note.Note.{Note}
use Rattle.command_words.specs.declared.status.Status.{Status}
use Rattle.command_words.specs.declared.status.Status.TheVariants as status
use Rattle.segment_check.specs.Checked.{IsImageOf}
use Rattle.segment_check.specs.Found.{Found, IsFound}
use Rattle.segment_check.proofs.Finds.{finds_one}
use Rattle.segment_file.specs.Names.{IsSegmentName}
use Rattle.table_store.specs.Segments.{most_segments}
use Rattle.table_store.specs.Stands.{Stands}
use Rattle.table_store.proofs.AcceptedLemmas.{accepted_valid}
use Rattle.command_model.specs.Attach.{AsksCheck, FitsCheck, attached_rows, file_rows}
use Rattle.command_model.specs.Build.{new_rows, table_of}
use Rattle.command_model.specs.Create.{Made, table_from}
use Rattle.command_model.specs.Queried.{all_rows, each_rows, rows_in}
use Rattle.command_model.specs.Step.{HasStep, IsFinding, Replies, attached_to, created, rows_answer, sql_answered, step_of, text_of, with_attached, with_rows, with_table, without_segment}
use Rattle.command_model.specs.World.{Stage}
use Rattle.command_model.proofs.MachineLemmas.{read_as}
use Rattle.pinot_run.specs.Headline.{AnswersRows, Ingests, IsIngested, IsOfMoves, IsOn, IsSource, LeavesOf, Move, Moves, Reaches, RowsAreIngested}

-- ---- what a query prints

flat_each : (f : List ℕ → List (List Value)) (names : List (List ℕ)) → flat_map (λ rows. rows) (each f names) ≡ flat_map f names
flat_each f [] = refl
flat_each f (name ∷ names) = ap (λ more. f name ++ more) (flat_each f names)

begins : (table : Table) (names : List (List ℕ)) (rows : List (List (List Value))) (reply : SqlReply) (a : Asked)
    → ((wrong : SqlFault) → a ≡ Err wrong → reply ≡ Err wrong) → (text : List ℕ)
    → sql_answered (stated_by table names rows reply a) ≡ Replies text
    → (first more : List ℕ) × (reply ≡ Ok first) × (text ≡ first ++ (10 ∷ more))
begins table names rows (Ok first) (Ok query) none text is = (first, lines_of (stats_line query table) names rows, refl, sym (ap text_of is))
begins table names rows (Err wrong) (Ok query) none text is = absurd cc
begins table names rows (Ok first) (Err wrong) none text is = absurd (ok_err first wrong (none wrong refl))
  where
    ok_err : (first : List ℕ) (wrong : SqlFault) → Ok first ≢ Err wrong
    ok_err first wrong e = absurd cc
begins table names rows (Err other) (Err wrong) none text is = absurd cc

pub answers : AnswersRows
answers texts segments table sql accepted =
    let keys = map.keys segments in
    let all : sql_reply table false sql (flat_map (λ rows. rows) (each_rows segments)) ≡ sql_reply table false sql (all_rows segments) = ap (sql_reply table false sql) (flat_each (λ name. rows_in (map.get segments name)) keys) in
    record {
      queried = ap (rows_answer Rows segments sql) (read_as texts table accepted);
      stated = λ text is.
          let so = sym (ap (rows_answer RowsAndPlans segments sql) (read_as texts table accepted)) ∙ is in
          let (first, more, reply, spelled) = begins table keys (each_rows segments) (sql_reply table false sql (flat_map (λ rows. rows) (each_rows segments))) (asked table false sql)
          (λ wrong e. unasked_none table false sql wrong (flat_map (λ rows. rows) (each_rows segments)) e) text so in
          (first, more, sym all ∙ reply, spelled);
    }

-- ---- what a call does to a state

-- the table is made
pub record MakesTable (from to : State) : Type 0 where
  pub texts : Texts
  pub from_is : from ≡ NoTable
  pub to_is : to ≡ HasTable texts map.empty

-- a segment is made of the rows of a file
pub record MakesSegment (command : Option Command) (files : Files) (from to : State) : Type 0 where
  pub name : List ℕ
  pub texts : Texts
  pub segments : Segments
  pub table : Table
  pub rows : List (List Value)
  pub from_is : from ≡ HasTable texts segments
  pub table_is : table_of texts ≡ Some table
  pub free : map.get segments name ≡ None
  pub source : IsSource command files texts segments table name rows
  pub to_is : to ≡ HasTable texts (map.insert segments name (segment_of table rows))

-- a segment is dropped
pub record LosesSegment (command : Option Command) (from to : State) : Type 0 where
  pub name : List ℕ
  pub texts : Texts
  pub segments : Segments
  pub command_is : command ≡ Some (Drop name)
  pub was_there : is_some (map.get segments name) ≡ true
  pub from_is : from ≡ HasTable texts segments
  pub to_is : to ≡ HasTable texts (map.remove segments name)

abbrev pub Changes : Option Command → Files → State → State → Type 0
Changes command files from to = (to ≡ from) ⊎ MakesTable from to ⊎ MakesSegment command files from to ⊎ LosesSegment command from to

created_changes : (command : Option Command) (files : Files) (from : State) (made : Made) → Changes command files from (created from made)
created_changes command files (HasTable texts segments) made = inl refl
created_changes command files NoTable (Err line) = inl refl
created_changes command files NoTable (Ok (texts, table)) = inr (inl (record { texts = texts; from_is = refl; to_is = refl }))

abbrev rows_or : List (List Value) → Result (List (List Value)) Note → List (List Value)
rows_or other (Ok rows) = rows
rows_or other (Err line) = other

pub free_by : (o : Option Segment) (line : Note) (rest : Result (List (List Value)) Note) (rows : List (List Value)) → (if is_some o then Err line else rest) ≡ Ok rows → o ≡ None
free_by None line rest rows e = refl
free_by (Some segment) line rest rows e = absurd cc

module _ (name : List ℕ) (csv : RowSource) (files : Files) (texts : Texts) (segments : Segments) where
  rows_change : (table : Table) → table_of texts ≡ Some table → (r : Result (List (List Value)) Note) → new_rows table segments name csv files ≡ r
      → Changes (Some (Build name csv)) files (HasTable texts segments) (with_rows texts segments name table r).state
  rows_change table is (Err line) e = inl refl
  rows_change table is (Ok rows) e =
      inr (inr (inl (record {
        name = name;
        texts = texts;
        segments = segments;
        table = table;
        rows = rows;
        from_is = refl;
        table_is = is;
        free = free_by (map.get segments name) _ _ rows e;
        source = inl (record { from = csv; command_is = refl; rows_are = e });
        to_is = refl;
      })))

  table_changes : (t : Option Table) → table_of texts ≡ t → Changes (Some (Build name csv)) files (HasTable texts segments) (with_table texts segments name csv files t).state
  table_changes None is = inl refl
  table_changes (Some table) is = rows_change table is (new_rows table segments name csv files) refl

-- the rows of a file that is attached
by_room : (full : Bool) (line : Note) (rest : Result (List (List Value)) Note) (rows : List (List Value)) → (if full then Err line else rest) ≡ Ok rows → (full ≡ false) × (rest ≡ Ok rows)
by_room true line rest rows e = absurd cc
by_room false line rest rows e = (refl, e)

by_name : (o : Option Segment) (line : Note) (rest : Result (List (List Value)) Note) (rows : List (List Value)) → (if is_some o then Err line else rest) ≡ Ok rows → rest ≡ Ok rows
by_name None line rest rows e = e
by_name (Some segment) line rest rows e = absurd cc

by_file : (table : Table) (name file : List ℕ) (o : Option (List ℕ)) (found : Found) (rows : List (List Value)) → file_rows table name file o found ≡ Ok rows → (bytes : List ℕ) × (o ≡ Some bytes) × (found ≡ Ok rows)
by_file table name file None found rows e = absurd cc
by_file table name file (Some bytes) (Ok own) rows e =
    let same : own ≡ rows = ap (rows_or own) e in
    (bytes, refl, ap Ok same)
by_file table name file (Some bytes) (Err part) rows e = absurd cc

fewer_than : (n : ℕ) → nat_le most_segments n ≡ false → n < most_segments
fewer_than n e = grind (arith, nat_tests)

module _ (name file : List ℕ) (files : Files) (texts : Texts) (segments : Segments) (found : Found) (fits : FitsCheck (HasTable texts segments) name file files found) where
  found_change : (table : Table) → table_of texts ≡ Some table → (r : Result (List (List Value)) Note) → attached_rows table segments name file files found ≡ r
      → Changes (Some (Attach name file)) files (HasTable texts segments) (with_attached texts segments name table r).state
  found_change table is (Err line) e = inl refl
  found_change table is (Ok rows) e =
      let free : map.get segments name ≡ None = free_by (map.get segments name) _ _ rows e in
      let (fewer, of) = by_room (nat_le most_segments (map.len segments)) _ _ rows (by_name (map.get segments name) _ _ rows e) in
      let (bytes, got, own) = by_file table name file (map.get files file) found rows of in
      let asks : AsksCheck texts segments name file files table bytes = record { table_is = is; free = free; room = fewer_than (map.len segments) fewer; bytes_are = got } in
      inr (inr (inl (record {
        name = name;
        texts = texts;
        segments = segments;
        table = table;
        rows = rows;
        from_is = refl;
        table_is = is;
        free = free;
        source = inr (record { file = file; command_is = refl; bytes = bytes; asks = asks; is_image = subst (IsFound table name bytes) own (fits table bytes asks) });
        to_is = refl;
      })))

  attached_changes : (t : Option Table) → table_of texts ≡ t → Changes (Some (Attach name file)) files (HasTable texts segments) (attached_to texts segments name file files found t).state
  attached_changes None is = inl refl
  attached_changes (Some table) is = found_change table is (attached_rows table segments name file files found) refl

dropped_changes : (name : List ℕ) (files : Files) (texts : Texts) (segments : Segments) (there : Bool) → is_some (map.get segments name) ≡ there
    → Changes (Some (Drop name)) files (HasTable texts segments) (without_segment there texts segments name).state
dropped_changes name files texts segments true is = inr (inr (inr (record { name = name; texts = texts; segments = segments; command_is = refl; was_there = is; from_is = refl; to_is = refl })))
dropped_changes name files texts segments false is = inl refl

changes : (from : State) (command : Option Command) (files : Files) (found : Found) → IsFinding command from files found → Changes command files from (step_of from command files found).state
changes from None files found fits = inl refl
changes from (Some (Scan file sql)) files found fits = inl refl
changes from (Some (Create made)) files found fits = created_changes (Some (Create made)) files from (table_from made files)
changes NoTable (Some (Build name csv)) files found fits = inl refl
changes (HasTable texts segments) (Some (Build name csv)) files found fits = table_changes name csv files texts segments (table_of texts) refl
changes NoTable (Some (Attach name file)) files found fits = inl refl
changes (HasTable texts segments) (Some (Attach name file)) files found fits = attached_changes name file files texts segments found fits (table_of texts) refl
changes NoTable (Some (Drop name)) files found fits = inl refl
changes (HasTable texts segments) (Some (Drop name)) files found fits = dropped_changes name files texts segments (is_some (map.get segments name)) refl
changes from (Some (Look aim name)) files found fits = inl refl
changes from (Some Listing) files found fits = inl refl
changes from (Some (Ask about sql)) files found fits = inl refl
changes from (Some (Open file)) files found fits = inl refl

-- either state, by the status
module _ (files : Files) (command : Option Command) (old new : Stage State) where
  abbrev Steps : Type 0
  Steps = HasStep old.kept command files (λ after. new.kept ≡ after.state)

  either : (ended : Status) → LeavesOf (HasStep old.kept command files) old ended new → (new.kept ≡ old.kept) ⊎ Steps
  either status.ReadFault l = inl l.1.kept
  either status.WriteFault (inl l) = inl l.1.kept
  either status.WriteFault (inr l) = inr (l.0, l.1, l.2.1)
  either status.NoMemory l = inl l.kept
  either status.Done l = inr (l.0, l.1, l.2.1)
  either status.BadWords l = inr (l.0, l.1, l.2.1)
  either status.NoInput l = inr (l.0, l.1, l.2.1)
  either status.BadSchema l = inr (l.0, l.1, l.2.1)
  either status.BadSettings l = inr (l.0, l.1, l.2.1)
  either status.TableExists l = inr (l.0, l.1, l.2.1)
  either status.NoTable l = inr (l.0, l.1, l.2.1)
  either status.BadCsv l = inr (l.0, l.1, l.2.1)
  either status.TooLarge l = inr (l.0, l.1, l.2.1)
  either status.NameTaken l = inr (l.0, l.1, l.2.1)
  either status.NoSegment l = inr (l.0, l.1, l.2.1)
  either status.BadQuery l = inr (l.0, l.1, l.2.1)
  either status.NotASegment l = inr (l.0, l.1, l.2.1)
  either status.TooManyGroups l = inr (l.0, l.1, l.2.1)
  either status.CursorTaken l = inr (l.0, l.1, l.2.1)
  either status.NoCursor l = inr (l.0, l.1, l.2.1)

pub moves : (files : Files) (command : Option Command) (old : Stage State) (ended : Status) (new : Stage State) → Moves files command old ended new → Changes command files old.kept new.kept
moves files command old ended new moved = elim (either files command old new ended moved.leaves) [
  | inl same ↦ inl same
  | inr h ↦ subst (Changes command files old.kept) (sym h.2) (changes old.kept command files h.0 h.1)
]

-- ---- the rows

pub no_table : (texts : Texts) (segments : Segments) → NoTable ≢ HasTable texts segments
no_table texts segments e = absurd cc

abbrev pub texts_in : Texts → State → Texts
texts_in other NoTable = other
texts_in other (HasTable texts segments) = texts

abbrev pub segments_in : Segments → State → Segments
segments_in other NoTable = other
segments_in other (HasTable texts segments) = segments

abbrev the_name : List ℕ → Option Command → List ℕ
the_name other (Some (Build name csv)) = name
the_name other (Some (Attach name file)) = name
the_name other (Some (Drop name)) = name
the_name other command = other

abbrev the_csv : RowSource → Option Command → RowSource
the_csv other (Some (Build name csv)) = csv
the_csv other command = other

abbrev the_file : List ℕ → Option Command → List ℕ
the_file other (Some (Attach name file)) = file
the_file other command = other

abbrev bytes_or : List ℕ → Option (List ℕ) → List ℕ
bytes_or other None = other
bytes_or other (Some bytes) = bytes

abbrev found_or : List (List Value) → Found → List (List Value)
found_or other (Ok rows) = rows
found_or other (Err part) = other

abbrev table_or : Table → Option Table → Table
table_or other None = other
table_or other (Some table) = table

abbrev segment_or : Segment → Option Segment → Segment
segment_or other None = other
segment_or other (Some segment) = segment

pub none_some : (segment : Segment) → None ≢ Some segment
none_some segment e = absurd cc

build_drop : {A : Type 0} (name : List ℕ) (csv : RowSource) (gone : List ℕ) → Some (Build name csv) ≡ Some (Drop gone) → A
build_drop name csv gone e = absurd cc

attach_drop : {A : Type 0} (name file gone : List ℕ) → Some (Attach name file) ≡ Some (Drop gone) → A
attach_drop name file gone e = absurd cc

build_attach : {A : Type 0} (name : List ℕ) (csv : RowSource) (other file : List ℕ) → Some (Build name csv) ≡ Some (Attach other file) → A
build_attach name csv other file e = absurd cc

-- no source of rows is a drop
source_drop : {A : Type 0} (command : Option Command) (files : Files) (texts : Texts) (segments : Segments) (table : Table) (name : List ℕ) (rows : List (List Value)) (gone : List ℕ) → IsSource command files texts segments table name rows → command ≡ Some (Drop gone) → A
source_drop command files texts segments table name rows gone (inl b) e = build_drop name b.from gone (sym b.command_is ∙ e)
source_drop command files texts segments table name rows gone (inr a) e = attach_drop name a.file gone (sym a.command_is ∙ e)

-- it is of its own name
source_on : (command : Option Command) (files : Files) (texts : Texts) (segments : Segments) (table : Table) (name : List ℕ) (rows : List (List Value)) → IsSource command files texts segments table name rows → IsOn name command
source_on command files texts segments table name rows (inl b) = inl (b.from, b.command_is)
source_on command files texts segments table name rows (inr a) = inr (inl (a.file, a.command_is))

-- and of no other
source_name : (command : Option Command) (files : Files) (texts : Texts) (segments : Segments) (table : Table) (name : List ℕ) (rows : List (List Value)) (other : List ℕ) → IsSource command files texts segments table name rows → IsOn other command → other ≡ name
source_name command files texts segments table name rows other (inl b) (inl (csv, is)) = ap (the_name other) (sym is ∙ b.command_is)
source_name command files texts segments table name rows other (inl b) (inr (inl (file, is))) = build_attach name b.from other file (sym b.command_is ∙ is)
source_name command files texts segments table name rows other (inl b) (inr (inr is)) = build_drop name b.from other (sym b.command_is ∙ is)
source_name command files texts segments table name rows other (inr a) (inl (csv, is)) = build_attach other csv name a.file (sym is ∙ a.command_is)
source_name command files texts segments table name rows other (inr a) (inr (inl (file, is))) = ap (the_name other) (sym is ∙ a.command_is)
source_name command files texts segments table name rows other (inr a) (inr (inr is)) = attach_drop name a.file other (sym a.command_is ∙ is)

-- one command over one table is the source of one list of rows
source_once : (command : Option Command) (files : Files) (texts : Texts) (segments : Segments) (table : Table) (name other : List ℕ) (rows own : List (List Value)) → IsAccepted texts table → IsSegmentName other
    → IsSource command files texts segments table name rows → IsSource command files texts segments table other own → (name ≡ other) × (rows ≡ own)
source_once command files texts segments table name other rows own accepted named (inl a) (inl b) =
    let one : Some (Build name a.from) ≡ Some (Build other b.from) = sym a.command_is ∙ b.command_is in
    let names : name ≡ other = ap (the_name name) one in
    let csvs : a.from ≡ b.from = ap (the_csv a.from) one in
    (names, ap (rows_or rows) (sym a.rows_are ∙ (λ k. new_rows table segments (names k) (csvs k) files) ∙ b.rows_are))
source_once command files texts segments table name other rows own accepted named (inl a) (inr b) = build_attach name a.from other b.file (sym a.command_is ∙ b.command_is)
source_once command files texts segments table name other rows own accepted named (inr a) (inl b) = build_attach other b.from name a.file (sym b.command_is ∙ a.command_is)
source_once command files texts segments table name other rows own accepted named (inr a) (inr b) =
    let one : Some (Attach name a.file) ≡ Some (Attach other b.file) = sym a.command_is ∙ b.command_is in
    let names : name ≡ other = ap (the_name name) one in
    let file : a.file ≡ b.file = ap (the_file a.file) one in
    let bytes : a.bytes ≡ b.bytes = ap (bytes_or a.bytes) (sym a.asks.bytes_are ∙ ap (map.get files) file ∙ b.asks.bytes_are) in
    let moved : IsImageOf table other b.bytes rows = subst (λ n. IsImageOf table n b.bytes rows) names (subst (λ x. IsImageOf table name x rows) bytes a.is_image) in
    let same : ◌≡◌ {A = Found} (Ok rows) (Ok own) = finds_one table other b.bytes (Ok rows) (Ok own) (accepted_valid texts table accepted) named moved b.is_image in
    (names, ap (found_or rows) same)

none_there : (o : Option Segment) → is_some o ≡ true → o ≢ None
none_there None there e = absurd cc
none_there (Some segment) there e = absurd cc

got_put : (m : Segments) (name : List ℕ) (x : Segment) → map.get (map.insert m name x) name ≡ Some x
got_put m name x = map.get-insert nat_list_cmp_total m name x name ∙ ap (λ b. cond b (Some x) (map.get m name)) ((eq_by_cmp_equiv nat_list_cmp_total).refl name)

pub got_other : (m : Segments) (name : List ℕ) (x : Segment) (q : List ℕ) → q ≢ name → map.get (map.insert m name x) q ≡ map.get m q
got_other m name x q other = map.get-insert nat_list_cmp_total m name x q ∙ ap (λ b. cond b (Some x) (map.get m q)) (other_name q name other)

none_before : (moved : List Move) (name : List ℕ) (rows : List (List Value)) → Reaches moved NoTable → ¬ IsIngested moved name rows
none_before [] name rows reach ing = ing
none_before (move ∷ earlier) name rows (to_is, leads, reach) ing = elim (moves move.files move.command move.old move.ended move.new leads) [
  | inl same ↦
      let none : move.old.kept ≡ NoTable = sym same ∙ to_is in
      elim ing [
        | inl i ↦ no_table i.texts i.segments (sym none ∙ i.from_is)
        | inr (unless, before) ↦ none_before earlier name rows (subst (Reaches earlier) none reach) before
      ]
  | inr (inl made) ↦ no_table made.texts map.empty (sym to_is ∙ made.to_is)
  | inr (inr (inl built)) ↦ no_table built.texts (map.insert built.segments built.name (segment_of built.table built.rows)) (sym to_is ∙ built.to_is)
  | inr (inr (inr gone)) ↦ no_table gone.texts (map.remove gone.segments gone.name) (sym to_is ∙ gone.to_is)
]

-- a call that makes a segment
module _ (move : Move) (earlier : List Move) (texts : Texts) (segments : Segments) (table : Table) (name : List ℕ)
    (to_is : move.new.kept ≡ HasTable texts segments) (accepted : IsAccepted texts table)
    (built : MakesSegment move.command move.files move.old.kept move.new.kept) (stood : IsSomeAnd move.new.devices.depot.held (λ stored. Stands stored move.new.kept)) where
  made_one : HasTable texts segments ≡ HasTable built.texts (map.insert built.segments built.name (segment_of built.table built.rows))
  made_one = sym to_is ∙ built.to_is

  one_texts : built.texts ≡ texts
  one_texts = sym (ap (texts_in texts) made_one)

  one_table : built.table ≡ table
  one_table = ap (table_or table) (sym built.table_is ∙ ap table_of one_texts ∙ read_as texts table accepted)

  now : segments ≡ map.insert built.segments built.name (segment_of table built.rows)
  now = ap (segments_in segments) made_one ∙ ap (λ t. map.insert built.segments built.name (segment_of t built.rows)) one_table

  was_free : map.get built.segments built.name ≡ None
  was_free = built.free

  is_there : map.get segments built.name ≡ Some (segment_of table built.rows)
  is_there = ap (λ m. map.get m built.name) now ∙ got_put built.segments built.name (segment_of table built.rows)

  from_so : move.old.kept ≡ HasTable texts built.segments
  from_so = built.from_is ∙ ap (λ t. HasTable t built.segments) one_texts

  took : move.new.kept ≢ move.old.kept
  took e =
      let both : HasTable texts segments ≡ HasTable texts built.segments = sym to_is ∙ e ∙ from_so in
      let same : segments ≡ built.segments = ap (segments_in segments) both in
      none_some (segment_of table built.rows) (sym was_free ∙ ap (λ m. map.get m built.name) (sym same) ∙ is_there)

  kept : name ≢ built.name → map.get segments name ≡ map.get built.segments name
  kept other = ap (λ m. map.get m name) now ∙ got_other built.segments built.name (segment_of table built.rows) name other

  on_it : IsOn built.name move.command
  on_it = source_on move.command move.files built.texts built.segments built.table built.name built.rows built.source

  -- a segment of a state has a segment's name
  its_name : (held : Option Files) → IsSomeAnd held (λ stored. Stands stored move.new.kept) → IsSegmentName built.name
  its_name None h = absurd h
  its_name (Some stored) h =
      let there : Stands stored (HasTable texts segments) = subst (Stands stored) to_is h in
      there.valid.named built.name (segment_of table built.rows) is_there

  -- the source, of the table
  its_source : IsSource move.command move.files texts built.segments table built.name built.rows
  its_source = subst (λ t. IsSource move.command move.files texts built.segments t built.name built.rows) one_table (subst (λ t. IsSource move.command move.files t built.segments built.table built.name built.rows) one_texts built.source)

  own_rows : (rows : List (List Value)) → Ingests move name rows → (name ≡ built.name) × (rows ≡ built.rows)
  own_rows rows i =
      let froms : HasTable i.texts i.segments ≡ HasTable texts built.segments = sym i.from_is ∙ from_so in
      let its_texts : i.texts ≡ texts = ap (texts_in i.texts) froms in
      let its_segments : i.segments ≡ built.segments = ap (segments_in i.segments) froms in
      let its_table : i.table ≡ table = ap (table_or i.table) (sym (read_as i.texts i.table i.accepted) ∙ ap table_of its_texts ∙ read_as texts table accepted) in
      let source : IsSource move.command move.files texts built.segments table name rows =
      subst (λ t. IsSource move.command move.files texts built.segments t name rows) its_table
      (subst (λ m. IsSource move.command move.files texts m i.table name rows) its_segments
      (subst (λ t. IsSource move.command move.files t i.segments i.table name rows) its_texts i.source)) in
      source_once move.command move.files texts built.segments table name built.name rows built.rows accepted (its_name move.new.devices.depot.held stood) source its_source

  ingests : Ingests move built.name built.rows
  ingests = record {
    took_effect = took;
    texts = texts;
    segments = built.segments;
    from_is = from_so;
    table = table;
    accepted = accepted;
    source = its_source;
  }

  after_built : IsOfMoves earlier table built.segments name → IsOfMoves (move ∷ earlier) table segments name
  after_built before = record {
    there = λ rows ing. elim ing [
      | inl i ↦
          let own = own_rows rows i in
          ap (map.get segments) own.0 ∙ is_there ∙ ap (λ r. Some (segment_of table r)) (sym own.1)
      | inr (unless, more) ↦ elim (is_name name built.name) [
        | inl same ↦ absurd (took (unless (subst (λ n. IsOn n move.command) (sym same) on_it)))
        | inr other ↦ kept other ∙ before.there rows more
      ]
    ];
    came = λ segment got. elim (is_name name built.name) [
      | inl same ↦
          let its : segment ≡ segment_of table built.rows = ap (segment_or segment) (sym got ∙ ap (map.get segments) same ∙ is_there) in
          (built.rows, inl (subst (λ n. Ingests move n built.rows) (sym same) ingests), its)
      | inr other ↦
          let (rows, more, is) = before.came segment (sym (kept other) ∙ got) in
          let apart : IsOn name move.command → move.new.kept ≡ move.old.kept = λ on. absurd (other (source_name move.command move.files built.texts built.segments built.table built.name built.rows name built.source on)) in
          (rows, inr (apart, more), is)
    ];
  }

-- a call that drops a segment
module _ (move : Move) (earlier : List Move) (texts : Texts) (segments : Segments) (table : Table) (name : List ℕ)
    (to_is : move.new.kept ≡ HasTable texts segments) (gone : LosesSegment move.command move.old.kept move.new.kept) where
  left_one : HasTable texts segments ≡ HasTable gone.texts (map.remove gone.segments gone.name)
  left_one = sym to_is ∙ gone.to_is

  left : segments ≡ map.remove gone.segments gone.name
  left = ap (segments_in segments) left_one

  came_from : move.old.kept ≡ HasTable texts gone.segments
  came_from = gone.from_is ∙ ap (λ t. HasTable t gone.segments) (sym (ap (texts_in texts) left_one))

  none_left : map.get segments gone.name ≡ None
  none_left = ap (λ m. map.get m gone.name) left ∙ got_none gone.segments gone.name

  lost : move.new.kept ≢ move.old.kept
  lost e =
      let both : HasTable texts segments ≡ HasTable texts gone.segments = sym to_is ∙ e ∙ came_from in
      let same : segments ≡ gone.segments = ap (segments_in segments) both in
      none_there (map.get gone.segments gone.name) gone.was_there (ap (λ m. map.get m gone.name) (sym same) ∙ none_left)

  others : name ≢ gone.name → map.get segments name ≡ map.get gone.segments name
  others other = ap (λ m. map.get m name) left ∙ got_left gone.segments gone.name name other

  after_dropped : IsOfMoves earlier table gone.segments name → IsOfMoves (move ∷ earlier) table segments name
  after_dropped before = record {
    there = λ rows ing. elim ing [
      | inl i ↦ source_drop move.command move.files i.texts i.segments i.table name rows gone.name i.source gone.command_is
      | inr (unless, more) ↦ elim (is_name name gone.name) [
        | inl same ↦ absurd (lost (unless (inr (inr (gone.command_is ∙ ap (λ n. Some (Drop n)) (sym same))))))
        | inr other ↦ others other ∙ before.there rows more
      ]
    ];
    came = λ segment got. elim (is_name name gone.name) [
      | inl same ↦ absurd (none_some segment (sym (ap (map.get segments) same ∙ none_left) ∙ got))
      | inr other ↦
          let (rows, more, is) = before.came segment (sym (others other) ∙ got) in
          let apart : IsOn name move.command → move.new.kept ≡ move.old.kept = λ on. elim on [
            | inl (csv, is_on) ↦ build_drop name csv gone.name (sym is_on ∙ gone.command_is)
            | inr (inl (file, is_on)) ↦ attach_drop name file gone.name (sym is_on ∙ gone.command_is)
            | inr (inr is_on) ↦ absurd (other (ap (the_name name) (sym is_on ∙ gone.command_is)))
          ] in
          (rows, inr (apart, more), is)
    ];
  }

pub ingested : RowsAreIngested
ingested [] texts segments table reach accepted name = absurd (no_table texts segments (sym reach))
ingested (move ∷ earlier) texts segments table (to_is, leads, reach) accepted name = elim (moves move.files move.command move.old move.ended move.new leads) [
  | inl same ↦
      let before = ingested earlier texts segments table (subst (Reaches earlier) (sym same ∙ to_is) reach) accepted name in
      record {
        there = λ rows ing. elim ing [ inl i ↦ absurd (i.took_effect same) | inr (unless, more) ↦ before.there rows more ];
        came = λ segment got. let (rows, more, is) = before.came segment got in (rows, inr ((λ on. same), more), is);
      }
  | inr (inl made) ↦
      let none : segments ≡ map.empty = ap (segments_in segments) (sym to_is ∙ made.to_is) in
      record {
        there = λ rows ing. elim ing [
          | inl i ↦ absurd (no_table i.texts i.segments (sym made.from_is ∙ i.from_is))
          | inr (unless, more) ↦ absurd (none_before earlier name rows (subst (Reaches earlier) made.from_is reach) more)
        ];
        came = λ segment got. absurd (none_some segment (sym (map.get-empty name_order name) ∙ ap (λ m. map.get m name) (sym none) ∙ got));
      }
  | inr (inr (inl built)) ↦ after_built move earlier texts segments table name to_is accepted built leads.stands
      (ingested earlier texts built.segments table (subst (Reaches earlier) (from_so move earlier texts segments table name to_is accepted built leads.stands) reach) accepted name)
  | inr (inr (inr gone)) ↦ after_dropped move earlier texts segments table name to_is gone
      (ingested earlier texts gone.segments table (subst (Reaches earlier) (came_from move earlier texts segments table name to_is gone) reach) accepted name)
]
