-- The words of a command.
use Rattle.std.specs.Prelude.{ℕ, ◌+◌, ◌-◌, ◌*◌, Bool, true, false, List, [], ◌∷◌, Option, Some, None, codes, length, nat_le, nat_lt, ◌&&◌, if◌then◌else◌}
use Rattle.std.specs.Str.{bytes_eq}
use Rattle.segment_file.specs.Names.{is_segment_name}
use Rattle.command_words.specs.declared.about.About.{About}
use Rattle.command_words.specs.declared.about.About.TheVariants.{Plans, Rows, RowsAndPlans}
use Rattle.command_words.specs.declared.aim.Aim.{Aim}
use Rattle.command_words.specs.declared.aim.Aim.TheVariants.{Dump, Verify}

-- where the texts of a table come from: the files of its schema and of its settings, or, where so
-- many rows are to be generated, the program, which no words of a command spell
pub data TextSource : Type 0 where
  TextFiles : (schema settings : List ℕ) → TextSource
  GeneratedTexts : (rows : ℕ) → TextSource

-- where the rows of a segment come from: a CSV file, or so many of the program, which no words of a
-- command spell
pub data RowSource : Type 0 where
  CsvFile : (csv : List ℕ) → RowSource
  GeneratedRows : (rows : ℕ) → RowSource

-- what the words of a command ask for
pub data Command : Type 0 where
  Scan : (file sql : List ℕ) → Command
  Create : (texts : TextSource) → Command
  Build : (name : List ℕ) (rows : RowSource) → Command
  Drop : (name : List ℕ) → Command
  Look : (aim : Aim) (name : List ℕ) → Command
  Attach : (name file : List ℕ) → Command
  Listing : Command
  Ask : (about : About) (sql : List ℕ) → Command
  -- the opening of a script, which no words of a command spell
  Open : (file : List ℕ) → Command

-- the command that these words spell, if they spell one
abbrev pub command_of : List (List ℕ) → Option Command
command_of (verb ∷ []) = if bytes_eq verb (codes "list") then Some Listing else None
command_of (verb ∷ first ∷ []) =
    if bytes_eq verb (codes "query") then Some (Ask Rows first)
    else if bytes_eq verb (codes "explain") then Some (Ask Plans first)
    else if bytes_eq verb (codes "stats") then Some (Ask RowsAndPlans first)
    else if bytes_eq verb (codes "drop") && is_segment_name first then Some (Drop first)
    else if bytes_eq verb (codes "verify") && is_segment_name first then Some (Look Verify first)
    else if bytes_eq verb (codes "dump") && is_segment_name first then Some (Look Dump first)
    else None
command_of (verb ∷ first ∷ second ∷ []) =
    if bytes_eq verb (codes "scan") then Some (Scan first second)
    else if bytes_eq verb (codes "create") then Some (Create (TextFiles first second))
    else if bytes_eq verb (codes "build") && is_segment_name first then Some
    (Build first (CsvFile second))
    else if bytes_eq verb (codes "attach") && is_segment_name first then Some (Attach first second)
    else None
command_of words = None

-- whether a command may write the store
abbrev pub writes : Option Command → Bool
writes (Some (Create texts)) = true
writes (Some (Build name rows)) = true
writes (Some (Attach name file)) = true
writes (Some (Drop name)) = true
writes (Some (Scan file sql)) = false
writes (Some (Look aim name)) = false
writes (Some Listing) = false
writes (Some (Ask about sql)) = false
writes (Some (Open file)) = false
writes None = false

-- ---- rows that are to be generated

-- `0` to `9`
abbrev pub is_digit : ℕ → Bool
is_digit byte = nat_le 48 byte && nat_le byte 57

-- the number that digits spell after those of this number, of at most seven digits in all
abbrev pub number_after : ℕ → List ℕ → Option ℕ
number_after before [] = Some before
number_after before (digit ∷ digits) = if is_digit digit && nat_lt before 1000000 then number_after
    (before * 10 + (digit - 48)) digits else None

-- the number that one to seven digits spell
abbrev pub number_of : List ℕ → Option ℕ
number_of digits = if nat_le 1 (length digits) && nat_le (length digits) 7 then number_after 0
    digits else None

-- how many rows these words ask to be generated, if they do
abbrev pub rows_asked : List (List ℕ) → Option ℕ
rows_asked (verb ∷ digits ∷ []) = if bytes_eq verb (codes "generate") then number_of digits
    else None
rows_asked words = None

-- ---- requests

-- what words ask for: the commands of a file, or its lines on cursors, or one command, if they
-- spell one, or rows that are to be generated, which several commands do
pub data Request : Type 0 where
  Script : (file : List ℕ) → Request
  Serve : (file : List ℕ) → Request
  One : (command : Option Command) → Request
  Generate : (rows : ℕ) → Request

-- so many rows that are to be generated, or a command
abbrev pub unless_rows : Option ℕ → Option Command → Request
unless_rows None command = One command
unless_rows (Some rows) command = Generate rows

-- what words that name no file of lines ask for, as those of a line of a script
abbrev pub request_of : List (List ℕ) → Request
request_of words = unless_rows (rows_asked words) (command_of words)

-- what these words ask for
abbrev pub call_of : List (List ℕ) → Request
call_of (verb ∷ file ∷ []) =
    if bytes_eq verb (codes "script") then Script file
    else if bytes_eq verb (codes "serve") then Serve file
    else request_of (verb ∷ file ∷ [])
call_of words = One (command_of words)

-- whether what is asked for may write the store; the lines of a file may
abbrev pub asks_write : Request → Bool
asks_write (Script file) = true
asks_write (Serve file) = true
asks_write (One command) = writes command
asks_write (Generate rows) = true

-- whether what these words ask for may write the store
abbrev pub may_write : List (List ℕ) → Bool
may_write words = asks_write (call_of words)
