-- What one command answers where no device fails and there is memory.
use Rattle.std.specs.Prelude.{ℕ, Bool, true, false, nat_lt, List, [], ◌++◌, length, codes, is_some, Option, Some, None, Result, Ok, Err, if◌then◌else◌}
use Rattle.std.specs.FinMap as map
use Rattle.std.specs.Str.{is_utf8}
use Rattle.outside.specs.Files.{Files}
use Rattle.values.specs.declared.value.Value.{Value}
use Rattle.table_schema.specs.declared.table.Table.{Table}
use Rattle.table_store.specs.Stands.{segment_of}
use Rattle.table_store.specs.State.{Segment, Segments, State, Texts, NoTable, HasTable}
use Rattle.table_store.specs.TableFile.{table_name}
use Rattle.table_store.specs.Images.{Found}
use Rattle.command_model.specs.Attach.{FitsCheck, attached_rows, attached_text}
use Rattle.command_model.specs.Build.{built_text, new_rows, table_of}
use Rattle.command_words.specs.Command.{Ask, Attach, Build, Command, Create, Drop, Listing, Look, Open, RowSource, Scan, command_of}
use Rattle.command_model.specs.Create.{Made, table_from}
use Rattle.command_model.specs.Drop.{dropped_text}
use Rattle.sql_reply.specs.SqlReply.{SqlReply}
use Rattle.text_scan.specs.TextReply.{TextReply, text_reply}
use Rattle.command_model.specs.Stored.{count_in, listed}
use Rattle.command_model.specs.Look.{dumped_text, verified_text}
use Rattle.command_model.specs.Queried.{reply_about}
use Rattle.command_words.specs.Notes.{sql_note, status_of, note_text}
use Rattle.command_model.specs.ScanNotes.{scan_note}
use Rattle.command_model.specs.Profile.{csv_limit, script_limit}
use Rattle.command_words.specs.declared.about.About.{About}
use Rattle.command_words.specs.declared.aim.Aim.{Aim}
use Rattle.command_words.specs.declared.aim.Aim.TheVariants.{Dump, Verify}
use Rattle.command_words.specs.declared.note.Counted.TheVariants as counted
use Rattle.command_words.specs.declared.note.Note.{Note}
use Rattle.command_words.specs.declared.note.Note.TheVariants as note
use Rattle.command_words.specs.declared.status.Status.{Status}
use Rattle.command_words.specs.declared.status.Status.TheVariants as status

-- a text for `out`, or a refusal
pub data Answer : Type 0 where
  Replies : (text : List ℕ) → Answer
  Refuses : (line : Note) → Answer

-- the status of an answer
abbrev pub status_after : Answer → Status
status_after (Replies text) = status.Done
status_after (Refuses line) = status_of line

-- what an answer gives to the stream of replies
abbrev pub text_of : Answer → List ℕ
text_of (Replies text) = text
text_of (Refuses line) = []

-- what an answer gives to the notes
abbrev pub line_of : Answer → List ℕ
line_of (Replies text) = []
line_of (Refuses line) = note_text line

-- what a query over a text answers: its reply, or a refusal
abbrev pub answered : TextReply → Answer
answered (Ok text) = Replies text
answered (Err wrong) = Refuses (scan_note wrong)

-- the answer to a query over the bytes of a file, if there is one
unfoldable pub scan_answer : List ℕ → List ℕ → Option (List ℕ) → Answer
scan_answer file sql None = Refuses (note.NoInput file)
scan_answer file sql (Some bytes) =
    if nat_lt csv_limit (length bytes) then Refuses (note.TooLarge counted.CsvBytes csv_limit)
    else answered (text_reply sql bytes)

-- a script is opened where its bytes are UTF-8, and nothing is replied so far
abbrev pub opened : Bool → Answer
opened true = Replies []
opened false = Refuses note.BadWords

-- the answer to the opening of a script, by the bytes of its file, if there is one
unfoldable pub script_answer : List ℕ → Option (List ℕ) → Answer
script_answer file None = Refuses (note.NoInput file)
script_answer file (Some bytes) =
    if nat_lt script_limit (length bytes)
    then Refuses (note.TooLarge counted.ScriptBytes script_limit) else opened (is_utf8 bytes)

-- the answer to `create`, by whether there is a table, and by what its files make
abbrev pub create_answer : Bool → Made → Answer
create_answer true made = Refuses note.TableExists
create_answer false (Err line) = Refuses line
create_answer false (Ok (texts, table)) = Replies (codes "created " ++ table.settings.table
    ++ codes "\n")

-- whether a state has a table
abbrev pub has_table : State → Bool
has_table NoTable = false
has_table (HasTable table segments) = true

-- the store after `create`
abbrev pub created : State → Made → State
created (HasTable table segments) made = HasTable table segments
created NoTable (Err line) = NoTable
created NoTable (Ok (texts, table)) = HasTable texts map.empty

-- the answer to `list`
abbrev pub list_answer : State → Answer
list_answer NoTable = Refuses note.NoTable
list_answer (HasTable texts segments) = Replies (listed segments)

-- the answer to `verify` where there is a table, by whether there is a segment of the name, and how
-- many rows it has
abbrev pub verified : Bool → List ℕ → ℕ → Answer
verified true name rows = Replies (verified_text name rows)
verified false name rows = Refuses (note.NoSegment name)

-- the answer to `verify`: each segment of a state is one
abbrev pub verify_answer : State → List ℕ → Answer
verify_answer NoTable name = Refuses note.NoTable
verify_answer (HasTable texts segments) name = verified (is_some (map.get segments name)) name
    (count_in (map.get segments name))

-- the answer to `dump` where there is a table, by its segment of the name
abbrev pub dumped : Table → List ℕ → Option Segment → Answer
dumped table name (Some segment) = Replies (dumped_text table segment.rows)
dumped table name None = Refuses (note.NoSegment name)

-- the same by the table; the texts of a store always have one
abbrev pub dumped_of : List ℕ → Option Segment → Option Table → Answer
dumped_of name segment None = Refuses (note.NotASegment table_name (codes "table"))
dumped_of name segment (Some table) = dumped table name segment

-- the answer to `dump`
abbrev pub dump_answer : State → List ℕ → Answer
dump_answer NoTable name = Refuses note.NoTable
dump_answer (HasTable texts segments) name = dumped_of name (map.get segments name)
    (table_of texts)

-- the answer to `verify` and `dump`
abbrev pub look_answer : Aim → State → List ℕ → Answer
look_answer Verify state name = verify_answer state name
look_answer Dump state name = dump_answer state name

-- what a query over rows answers: its reply, or a refusal
abbrev pub sql_answered : SqlReply → Answer
sql_answered (Ok text) = Replies text
sql_answered (Err wrong) = Refuses (sql_note wrong)

-- the answer to a query over the segments of a table; the texts of a store always have one
abbrev pub rows_answer : About → Segments → List ℕ → Option Table → Answer
rows_answer about segments sql None = Refuses (note.NotASegment table_name (codes "table"))
rows_answer about segments sql (Some table) = sql_answered (reply_about about table sql segments)

-- the answer to `query`, `explain` and `stats`
abbrev pub query_answer : About → State → List ℕ → Answer
query_answer about NoTable sql = Refuses note.NoTable
query_answer about (HasTable texts segments) sql = rows_answer about segments sql (table_of texts)

-- what a command leaves: its answer, and the state of the store
pub record After : Type 0 where
  pub answer : Answer
  pub state : State

-- the store after `build`, by the rows for its segment
abbrev pub with_rows : Texts → Segments → List ℕ → Table → Result (List (List Value)) Note → After
with_rows texts segments name table (Err line) = record {
  answer = Refuses line;
  state = HasTable texts segments;
}
with_rows texts segments name table (Ok rows) =
    record {
      answer = Replies (built_text name rows);
      state = HasTable texts
          (map.insert segments name (segment_of table rows));
    }

-- the same by the table of its texts; the texts of a store always have one
abbrev pub with_table : Texts → Segments → List ℕ → RowSource → Files → Option Table → After
with_table texts segments name source inputs None = record {
  answer = Refuses
      (note.NotASegment table_name (codes "table"));
  state = HasTable texts segments;
}
with_table texts segments name source inputs (Some table) = with_rows texts segments name table
    (new_rows table segments name source inputs)

-- what `build` leaves
abbrev pub built : State → List ℕ → RowSource → Files → After
built NoTable name source inputs = record { answer = Refuses note.NoTable; state = NoTable }
built (HasTable texts segments) name source inputs = with_table texts segments name source inputs
    (table_of texts)

-- the store after `attach`, by the rows for its segment
abbrev pub with_attached : Texts → Segments → List ℕ → Table → Result (List (List Value)) Note
    → After
with_attached texts segments name table (Err line) = record {
  answer = Refuses line;
  state = HasTable texts segments;
}
with_attached texts segments name table (Ok rows) =
    record {
      answer = Replies (attached_text name (length rows));
      state = HasTable texts
          (map.insert segments name (segment_of table rows));
    }

-- the same by the table of its texts; the texts of a store always have one
abbrev pub attached_to : Texts → Segments → List ℕ → List ℕ → Files → Found → Option Table → After
attached_to texts segments name file inputs found None = record {
  answer = Refuses
      (note.NotASegment table_name (codes "table"));
  state = HasTable texts segments;
}
attached_to texts segments name file inputs found (Some table) = with_attached texts segments name
    table (attached_rows table segments name file inputs found)

-- what `attach` leaves, by what the check of its file finds
abbrev pub attached : State → List ℕ → List ℕ → Files → Found → After
attached NoTable name file inputs found = record {
  answer = Refuses note.NoTable;
  state = NoTable;
}
attached (HasTable texts segments) name file inputs found = attached_to texts segments name file
    inputs found (table_of texts)

-- what `drop` leaves of a table, by whether there is a segment of the name
abbrev pub without_segment : Bool → Texts → Segments → List ℕ → After
without_segment true texts segments name = record {
  answer = Replies (dropped_text name);
  state = HasTable texts (map.remove segments name);
}
without_segment false texts segments name = record {
  answer = Refuses (note.NoSegment name);
  state = HasTable texts segments;
}

-- what `drop` leaves
abbrev pub dropped : State → List ℕ → After
dropped NoTable name = record { answer = Refuses note.NoTable; state = NoTable }
dropped (HasTable texts segments) name = without_segment (is_some (map.get segments name)) texts
    segments name

-- what a command does to a store, over these input files; for `attach` by what the check of its
-- file finds, of which the others take no notice
abbrev pub step_of : State → Option Command → Files → Found → After
step_of state None inputs found = record { answer = Refuses note.BadWords; state = state }
step_of state (Some (Scan file sql)) inputs found = record {
  answer = scan_answer file sql
      (map.get inputs file);
  state = state;
}
step_of state (Some (Create texts)) inputs found =
    record {
      answer = create_answer (has_table state) (table_from texts inputs);
      state = created state (table_from texts inputs);
    }
step_of state (Some (Build name source)) inputs found = built state name source inputs
step_of state (Some (Attach name file)) inputs found = attached state name file inputs found
step_of state (Some (Drop name)) inputs found = dropped state name
step_of state (Some (Look aim name)) inputs found = record {
  answer = look_answer aim state name;
  state = state;
}
step_of state (Some Listing) inputs found = record { answer = list_answer state; state = state }
step_of state (Some (Ask about sql)) inputs found = record {
  answer = query_answer about state sql;
  state = state;
}
step_of state (Some (Open file)) inputs found = record {
  answer = script_answer file (map.get inputs file);
  state = state;
}

-- what these words do
abbrev pub step : State → List (List ℕ) → Files → Found → After
step state words inputs found = step_of state (command_of words) inputs found

-- where a command checks a file, this is found
abbrev pub IsFinding : Option Command → State → Files → Found → Type 0
IsFinding (Some (Attach name file)) state inputs found = FitsCheck state name file inputs found
IsFinding command state inputs found = Unit {0}

-- the step of a command has P: that by what it finds, where it checks a file, which is one thing
-- alone; and for any other command just its step
abbrev pub HasStep : State → Option Command → Files → (After → Type 0) → Type 0
HasStep state command inputs P = (found : Found) × IsFinding command state inputs found
    × P (step_of state command inputs found)
