-- What is kept of cursors beside a store, and the state of the machine that both stand for.
use Rattle.std.specs.Prelude.{◌≡◌, ℕ, Bool, false, nat_eq, List, [], ◌∷◌, filter, map, take, drop, Option, Some, None, option_map, if◌then◌else◌}
use Rattle.std.specs.FinMap as finite
use Rattle.std.specs.List.{AllByRecursion, IsDistinct, list_any}
use Rattle.std.specs.Ordering.{eq_by_cmp}
use Rattle.outside.specs.Files.{Files, name_order}
use Rattle.values.specs.declared.value.Value.{Value}
use Rattle.table_schema.specs.Conditions.{all_hold}
use Rattle.table_schema.specs.declared.query.BoundQuery.{BoundQuery}
use Rattle.table_schema.specs.declared.table.Table.{Table}
use Rattle.group_table.specs.Groups.{Groups, groups_of}
use Rattle.group_table.specs.Shape.{shape_of}
use Rattle.segment_file.specs.Image.{file_of_rows}
use Rattle.segment_file.specs.Names.{file_of}
use Rattle.table_store.specs.Accepted.{IsAccepted}
use Rattle.table_store.specs.Kept.{IsKeptName, kept_name}
use Rattle.table_store.specs.Stands.{IsSegment, Stands}
use Rattle.table_store.specs.State.{HasTable, Segment, Segments, Texts}
use Rattle.cursor_serve.specs.Numbered.{IsNumbered}
use Rattle.cursor_serve.specs.Sound.{IsSound}
use Rattle.cursor_serve.specs.Machine.{Cursor, KeptList, Listed, Live, Machine, Version, rows_of, started}

-- ---- what is kept

-- what is kept of a cursor: its name, its query, the names of the segments of its open, how many of
-- them it has answered, for each the published name under which its rows still stand, if any, and
-- the groups so far; rows are not kept
pub record OpenCursor : Type 0 where
  pub name : List ℕ
  pub query : BoundQuery
  pub segments : List (List ℕ)
  pub answered : ℕ
  pub files : List (Option (List ℕ))
  pub groups : Groups

-- ---- the files of the machine's lists

-- a live list as a segment of the format that is written
abbrev pub segment_of : Version → Segment
segment_of version = record { format = 1; rows = version.rows }

-- the segments of the live lists
abbrev pub segments_of : Live → Segments
segments_of live = finite.from_entries
    (map (λ entry. (entry.0, segment_of entry.1)) (finite.entries live))

-- whether a version is the one that is live under a name
abbrev pub is_live_by : ℕ → Option Version → Bool
is_live_by number None = false
is_live_by number (Some version) = nat_eq version.number number

-- the names of the kept files of the list of this number
abbrev pub kept_files : ℕ → List KeptList → List (List ℕ)
kept_files number kept = map (λ k. kept_name k.listed.name k.line)
    (filter (λ k. nat_eq k.listed.version.number number) kept)

-- the first of some names, if there is one
abbrev pub first_of : List (List ℕ) → Option (List ℕ)
first_of [] = None
first_of (name ∷ names) = Some name

-- the published name under which the rows of a list stand: that of its segment where it is live,
-- that of its kept file where it is kept, and else none
abbrev pub stands_as : Machine → Listed → Option (List ℕ)
stands_as m listed =
    if is_live_by listed.version.number (finite.get m.live listed.name)
    then Some (file_of listed.name) else first_of (kept_files listed.version.number m.kept)

-- ---- the relation, in four parts

-- a cursor of the machine is kept: its query, its names and how many are answered; the groups of
-- the rows that are answered; and where the rows of each of its lists stand
pub record IsKeptAs (m : Machine) (cursor : Cursor) (kept : OpenCursor) : Type 0 where
  pub query : kept.query ≡ cursor.query
  pub segments : kept.segments ≡ map (λ listed. listed.name) cursor.lists
  pub answered : kept.answered ≡ cursor.answered
  pub groups : kept.groups ≡ groups_of (shape_of cursor.query)
      (filter (λ row. all_hold row cursor.query.conjuncts)
      (rows_of (take cursor.answered cursor.lists)))
  pub files : kept.files ≡ map (stands_as m) cursor.lists

-- the cursor of a name that is kept
abbrev pub kept_under : List ℕ → List OpenCursor → Option OpenCursor
kept_under name [] = None
kept_under name (cursor ∷ cursors) =
    if eq_by_cmp name_order name cursor.name then Some cursor else kept_under name cursors

-- both are there, and one is kept of the other; or none is
abbrev pub BothKept : Machine → Option Cursor → Option OpenCursor → Type 0
BothKept m None None = Unit {0}
BothKept m (Some cursor) (Some kept) = IsKeptAs m cursor kept
BothKept m other one = ⊥

-- the file of a name has just the image of a list
abbrev pub HasList : Table → Files → Listed → Option (List ℕ) → Type 0
HasList table files listed None = Unit {0}
HasList table files listed (Some file) = finite.get files file
    ≡ Some (file_of_rows 1 table listed.name listed.version.rows)

-- a list of a cursor is a segment that the table can have, and the file that stands for it has its
-- image
pub record IsListOf (table : Table) (files : Files) (m : Machine) (listed : Listed) : Type 0 where
  pub segment : IsSegment table (segment_of listed.version)
  pub image : HasList table files listed (stands_as m listed)

-- some file stands for a list
abbrev pub HasFile : Machine → Listed → Type 0
HasFile m listed = (file : List ℕ) × (stands_as m listed ≡ Some file)

-- what is kept of cursors, beside published files, stands for a state of the machine
pub record ServingStands (serving : List OpenCursor) (files : Files) (texts : Texts) (table : Table)
    (m : Machine) : Type 0 where
  pub accepted : IsAccepted texts table
  pub sound : IsSound m
  pub numbered : IsNumbered m
  -- the cursors are the machine's, with the groups that they have and the files that they need
  pub cursors : (name : List ℕ)
      → BothKept m (finite.get m.cursors name) (kept_under name serving)
  -- a list that no file stands for is answered
  pub answered : (name : List ℕ) (cursor : Cursor) → finite.get m.cursors name ≡ Some cursor
      → AllByRecursion (HasFile m) (drop cursor.answered cursor.lists)
  -- a file that stands for a list has the image of its rows
  pub lists : (name : List ℕ) (cursor : Cursor) → finite.get m.cursors name ≡ Some cursor
      → AllByRecursion (IsListOf table files m) cursor.lists
  -- the store stands for the live lists, and its kept files are those of the lists that are kept
  pub live : Stands files (HasTable texts (segments_of m.live))
  pub kept : (file : List ℕ) → IsKeptName file
      → finite.contains_key files file
      ≡ list_any (λ k. eq_by_cmp name_order file (kept_name k.listed.name k.line)) m.kept
  -- each of which has a file of its own
  pub apart : IsDistinct (eq_by_cmp name_order)
      (map (λ k. kept_name k.listed.name k.line) m.kept)

-- at the start no cursor is kept: where a store stands for these lists, and has no kept file, it
-- stands for the start of the machine
abbrev pub StartStands : Type 0
StartStands =
    (files : Files) (texts : Texts) (table : Table) (lists : List (List ℕ × List (List Value)))
    → IsAccepted texts table
    → Stands files (HasTable texts (segments_of (started lists).live))
    → ((file : List ℕ) → IsKeptName file → finite.get files file ≡ None)
    → ServingStands [] files texts table (started lists)
