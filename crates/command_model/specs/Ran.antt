-- What a command did before anything is given to a stream.
use Rattle.std.specs.Prelude.{◌≡◌, ◌⊎◌, ℕ, Bool, true, false, List, [], Option, Some, None, Result, Ok, Err, IfSome, IsSomeAnd}
use Rattle.std.specs.FinMap as map
use Rattle.outside.specs.Counts.{Rose}
use Rattle.outside.specs.Files.{Files, Has, Lacks, OfFile, with_file}
use Rattle.outside.specs.Seen.{Seen}
use Rattle.table_store.specs.Accepted.{IsNoTableFile}
use Rattle.table_store.specs.State.{State}
use Rattle.table_store.specs.Stands.{Stands}
use Rattle.table_store.specs.Segments.{HasSegment, IsFull, LacksSegment, most_segments}
use Rattle.table_store.specs.TableFile.{table_file, table_name, text_limit}
use Rattle.command_model.specs.Attach.{AttachRefuses, IsAttached, IsUnlikeInput}
use Rattle.command_model.specs.Build.{BuildRefuses, IsBuilt}
use Rattle.command_words.specs.Command.{Ask, Attach, Build, Command, Create, Drop, GeneratedTexts, Listing, Look, Open, RowSource, Scan, TextFiles, TextSource}
use Rattle.command_model.specs.Consulted.{AtMostRead, Consulted}
use Rattle.command_model.specs.Create.{Made, table_from}
use Rattle.command_model.specs.Drop.{DropRefuses, IsDropped}
use Rattle.command_model.specs.Profile.{may_read, place_refuses, profile}
use Rattle.command_model.specs.Queried.{IsQueried, IsWrongImage, QueryRefuses}
use Rattle.command_model.specs.Step.{After, Answer, HasStep, Refuses, Replies, create_answer, scan_answer, script_answer}
use Rattle.command_model.specs.Stored.{IsListed, IsWrongSegment, IsWrongTable, SegmentsRefuse}
use Rattle.command_model.specs.Touched.{ReadsFront, Touched}
use Rattle.command_model.specs.Look.{IsLookedAt, IsUnlikeRows, LookRefuses}
use Rattle.command_model.specs.World.{Devices}
use Rattle.command_words.specs.declared.about.About.{About}
use Rattle.command_words.specs.declared.aim.Aim.{Aim}
use Rattle.command_words.specs.declared.fault.Fault.{Fault}
use Rattle.command_words.specs.declared.fault.Fault.TheVariants as fault
use Rattle.command_words.specs.declared.note.Counted.TheVariants as counted
use Rattle.command_words.specs.declared.note.Note.{Note}
use Rattle.command_words.specs.declared.note.Note.TheVariants as note
use Rattle.command_words.specs.declared.stop.Stop.{Stop}
use Rattle.command_words.specs.declared.stop.Stop.TheVariants as stop

-- what holds wherever the input files are told, and the stored files too, and these stand for a
-- state
abbrev pub WhereStands : Option Files → Option Files → (State → Files → Type 0) → Type 0
WhereStands inputs stored P = IfSome inputs (λ files. IfSome stored (λ kept. (state : State)
    → Stands kept state → P state files))

-- the answer is that of a step, and the stored files, which go on being told, stand for its state
pub record IsStepped (after : After) (answer : Answer) (stored : Option Files) : Type 0 where
  pub answers : answer ≡ after.answer
  pub stands : IsSomeAnd stored (λ files. Stands files after.state)

-- ---- over any store, whether its files stand for a state or not

-- where the stored files are told, whether there is a table's among them
abbrev pub TableIsThere : Option Files → Bool → Type 0
TableIsThere stored true = Has stored table_name
TableIsThere stored false = Lacks stored table_name

-- the stored files after `create`, by whether there is a table
abbrev pub files_after : Bool → Made → Option Files → Option Files
files_after true made stored = stored
files_after false (Err line) stored = stored
files_after false (Ok (texts, table)) stored = with_file table_name (table_file texts) stored

-- what `create` does over any store, by whether there is a table and what its files make
pub record Creates (made : Made) (old : Option Files) (answer : Answer) (new : Option Files)
    : Type 0 where
  pub there : Bool
  pub known : TableIsThere old there
  pub answers : answer ≡ create_answer there made
  pub leaves : new ≡ files_after there made old

-- what `list` answers of any published files
abbrev pub Lists : Files → Answer → Type 0
Lists files (Replies text) = IsListed files text
Lists files (Refuses line) = SegmentsRefuse files line

-- what a query's text is answered of any published files
abbrev pub Queries : About → List ℕ → Files → Answer → Type 0
Queries about sql files (Replies text) = IsQueried about files sql text
Queries about sql files (Refuses line) = QueryRefuses about sql files line

-- what `build` does over any published files: a segment's file is put among them, or none
abbrev pub Builds : List ℕ → RowSource → Files → Files → Answer → Option Files → Type 0
Builds name source inputs files (Replies text) new = IsBuilt inputs files name source text new
Builds name source inputs files (Refuses line) new = BuildRefuses name source inputs files line
    × (new ≡ Some files)

-- what `attach` does over any published files: a segment's file is put among them, or none
abbrev pub Attaches : List ℕ → List ℕ → Files → Files → Answer → Option Files → Type 0
Attaches name file inputs files (Replies text) new = IsAttached inputs files name file text new
Attaches name file inputs files (Refuses line) new = AttachRefuses name file inputs files line
    × (new ≡ Some files)

-- what `drop` does over any published files: a segment's file is taken away from them, or none
abbrev pub Drops : List ℕ → Files → Answer → Option Files → Type 0
Drops name files (Replies text) new = IsDropped files name text new
Drops name files (Refuses line) new = DropRefuses name files line × (new ≡ Some files)

-- what `verify` and `dump` answer of any published files
abbrev pub Looks : Aim → List ℕ → Files → Answer → Type 0
Looks aim name files (Replies text) = IsLookedAt aim files name text
Looks aim name files (Refuses line) = LookRefuses aim name files line

-- what a command does over any store
abbrev pub Over : Option Command → Files → Option Files → Answer → Option Files → Type 0
Over None inputs old answer new = (answer ≡ Refuses note.BadWords) × (new ≡ old)
Over (Some (Scan file sql)) inputs old answer new = (answer ≡ scan_answer file sql
    (map.get inputs file)) × (new ≡ old)
Over (Some (Create texts)) inputs old answer new = Creates (table_from texts inputs) old answer new
Over (Some (Build name source)) inputs old answer new = IfSome old
    (λ files. Builds name source inputs files answer new)
Over (Some (Attach name file)) inputs old answer new = IfSome old
    (λ files. Attaches name file inputs files answer new)
Over (Some (Drop name)) inputs old answer new = IfSome old (λ files. Drops name files answer new)
Over (Some (Look aim name)) inputs old answer new = IfSome old
    (λ files. Looks aim name files answer) × (new ≡ old)
Over (Some Listing) inputs old answer new = IfSome old (λ files. Lists files answer) × (new ≡ old)
Over (Some (Ask about sql)) inputs old answer new = IfSome old
    (λ files. Queries about sql files answer) × (new ≡ old)
Over (Some (Open file)) inputs old answer new = (answer ≡ script_answer file
    (map.get inputs file)) × (new ≡ old)

-- ---- refusals

-- the bytes of the input files are refused so; for `build`, `query`, `explain` and `stats` the
-- files of the store have a part in it
abbrev pub Finds : Option Command → Files → Option Files → Note → Type 0
Finds None inputs stored line = Unit {0}
Finds (Some (Scan file sql)) inputs stored line = scan_answer file sql (map.get inputs file)
    ≡ Refuses line
Finds (Some (Create texts)) inputs stored line = table_from texts inputs ≡ Err line
Finds (Some (Build name source)) inputs stored line = IfSome stored
    (λ files. BuildRefuses name source inputs files line)
Finds (Some (Attach name file)) inputs stored line = ⊥
Finds (Some (Drop name)) inputs stored line = ⊥
Finds (Some (Look aim name)) inputs stored line = ⊥
Finds (Some Listing) inputs stored line = ⊥
Finds (Some (Ask about sql)) inputs stored line = IfSome stored
    (λ files. QueryRefuses about sql files line)
Finds (Some (Open file)) inputs stored line = script_answer file (map.get inputs file)
    ≡ Refuses line

-- a published file is not what it stands for; only `verify`, `dump`, `list`, `query`, `explain` and
-- `stats` look at those of segments. For `attach` it may be the input file that is no segment's
abbrev pub IsWrong : Option Command → Option Files → Files → List ℕ → List ℕ → Type 0
IsWrong (Some (Attach asked file)) inputs files name part = IsWrongTable files name part
    ⊎ IfSome inputs (λ given.
    IsUnlikeInput given files asked file (note.NotASegment name part))
IsWrong (Some (Look aim asked)) inputs files name part = IsWrongTable files name part
    ⊎ IsUnlikeRows aim files asked (note.NotASegment name part)
IsWrong (Some Listing) inputs files name part = IsWrongTable files name part
    ⊎ IsWrongSegment files name part
IsWrong (Some (Ask about sql)) inputs files name part = IsWrongTable files name part
    ⊎ IsWrongImage about sql files name part
IsWrong command inputs files name part = IsWrongTable files name part

-- a name is the one of the segment that a command makes, drops or looks at
abbrev pub IsNameIn : Option Command → List ℕ → Type 0
IsNameIn (Some (Build name source)) other = other ≡ name
IsNameIn (Some (Attach name file)) other = other ≡ name
IsNameIn (Some (Drop name)) other = other ≡ name
IsNameIn (Some (Look aim name)) other = other ≡ name
IsNameIn command other = ⊥

-- what is told of the devices where a command is refused so: of the store, or of the bytes of files
abbrev pub Caused : Option Command → Option Files → Option Files → Note → Type 0
Caused command inputs stored note.TableExists = Has stored table_name
Caused command inputs stored note.NoTable = Lacks stored table_name
Caused command inputs stored (note.NameTaken name) = IsNameIn command name
    × HasSegment stored name
Caused command inputs stored (note.NoSegment name) = IsNameIn command name
    × LacksSegment stored name
Caused command inputs stored (note.TooLarge counted.Segments limit) = (limit ≡ most_segments)
    × IfSome stored IsFull
Caused command inputs stored (note.NoInput file) = Lacks inputs file
Caused command inputs stored (note.NotASegment name part) = IfSome stored
    (λ files. IsWrong command inputs files name part)
Caused command inputs stored line = IfSome inputs (λ files. Finds command files stored line)

-- where a schema is refused, it alone was looked at
abbrev pub LooksAtSchema : TextSource → Seen → Seen → Type 0
LooksAtSchema (TextFiles schema settings) old new = ReadsFront schema text_limit old new
LooksAtSchema (GeneratedTexts rows) old new = new ≡ old

-- how far the inputs were looked at where a command is refused so: by `create` at none where there
-- is a table, and at the schema alone where it is refused; by `build` and `attach` at none where
-- the store has no place
abbrev pub Looked : Option Command → Note → Devices → Devices → Type 0
Looked (Some (Create texts)) note.TableExists old new = IfSome old.depot.held
    (λ _. new.inputs ≡ old.inputs)
Looked (Some (Create texts))
    (note.BadSchema wrong path) old new = LooksAtSchema texts old.inputs new.inputs
Looked (Some (Build name source)) line old new = place_refuses line ≡ true → new.inputs ≡ old.inputs
Looked (Some (Attach name file)) (note.NotASegment of part) old new = IfSome old.depot.held
    (λ files. OfFile (Some files) table_name IsNoTableFile → new.inputs ≡ old.inputs)
Looked (Some (Attach name file)) line old new = place_refuses line ≡ true
    → new.inputs ≡ old.inputs
Looked command line old new = Unit {0}

-- an answer that the command's row has; a reply reads what it may, and a refusal has its cause, and
-- leaves the store
abbrev pub IsAllowed : Option Command → Devices → Devices → Answer → Type 0
IsAllowed command old new (Replies text) = ((profile command).replies ≡ true)
    × Consulted command old new
IsAllowed command old new (Refuses line) = ((profile command).refuses line ≡ true)
    × Caused command old.inputs.held old.depot.held line × (new.depot.held ≡ old.depot.held)
    × Looked command line old new

-- a command came to an answer, and left the store as it does with that answer
pub record Acted (command : Option Command) (old new : Devices) (answer : Answer) : Type 0 where
  pub step : WhereStands old.inputs.held old.depot.held (λ state files.
      HasStep state command files (λ after. IsStepped after answer new.depot.held))
  pub over : IfSome old.inputs.held
      (λ files. Over command files old.depot.held answer new.depot.held)
  pub allowed : IsAllowed command old new answer

-- ---- faults

-- the cause of a fault
abbrev pub HasCause : Option Command → Devices → Devices → Fault → Type 0
HasCause command old new fault.Read = (may_read (profile command) ≡ true)
    × (Rose old.inputs.read_faults new.inputs.read_faults
    ⊎ Rose old.depot.read_faults new.depot.read_faults)
HasCause command old new fault.Write = Rose old.depot.write_faults new.depot.write_faults
HasCause command old new fault.Memory = Unit {0}

-- a fault came before the store was written
pub record Failed (command : Option Command) (old new : Devices) (why : Fault) : Type 0 where
  pub kept : new.depot.held ≡ old.depot.held
  pub cause : HasCause command old new why

-- a script was opened: nothing is replied so far
abbrev pub opening : Result (List ℕ) Stop → Result (List ℕ) Stop
opening (Ok text) = Ok []
opening (Err why) = Err why

-- how a command ended, by its result
abbrev pub Ended : Option Command → Devices → Devices → Result (List ℕ) Stop → Type 0
Ended command old new (Ok text) = Acted command old new (Replies text)
Ended command old new (Err (stop.Refused line)) = Acted command old new (Refuses line)
Ended command old new (Err (stop.Fault why)) = Failed command old new why

-- no device failed
pub record NoFaults (old new : Devices) : Type 0 where
  pub inputs : new.inputs.read_faults ≡ old.inputs.read_faults
  pub depot_reads : new.depot.read_faults ≡ old.depot.read_faults
  pub depot_writes : new.depot.write_faults ≡ old.depot.write_faults

-- a count of faults rose only where a call that it counts failed
abbrev pub Counts : Result (List ℕ) Stop → Devices → Devices → Type 0
Counts (Err (stop.Fault fault.Read)) old new = new.depot.write_faults ≡ old.depot.write_faults
Counts (Err (stop.Fault fault.Write)) old new = (new.inputs.read_faults ≡ old.inputs.read_faults)
    × (new.depot.read_faults ≡ old.depot.read_faults)
Counts result old new = NoFaults old new

-- the one clause of a command's function
pub record Ran (command : Option Command) (old new : Devices) (result : Result (List ℕ) Stop)
    : Type 0 where
  pub touched : Touched command old new
  pub reads : AtMostRead command old new
  pub counted : Counts result old new
  pub ended : Ended command old new result
