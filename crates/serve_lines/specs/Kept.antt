-- What is kept from line to line, and what it stands for beside a store.
use Rattle.std.specs.Prelude.{◌≡◌, ◌<◌, ◌⊎◌, ℕ, List, [], Option, Some, None, IfSome, MatchOption, map}
use Rattle.std.specs.FinMap as finite
use Rattle.std.specs.List.{AllByRecursion}
use Rattle.outside.specs.Files.{Files}
use Rattle.table_schema.specs.ValidTable.{IsValidTable}
use Rattle.table_schema.specs.declared.table.Table.{Table}
use Rattle.table_store.specs.Kept.{IsKeptName}
use Rattle.table_store.specs.Stands.{Stands}
use Rattle.table_store.specs.State as store
use Rattle.cursor_serve.specs.Machine.{Machine, started}
use Rattle.cursor_serve.specs.ServingStands.{OpenCursor, ServingStands, segments_of}
use Rattle.cursors.specs.Kept.{AreCursors, IsOver, cursors_in}
use Rattle.serving.specs.declared.serving.Serving.{Serving}
use Rattle.serve_lines.specs.Step.{NoStore, Served, Serves}
use Rattle.serve_lines.specs.declared.session.Session.{Session}

-- what is kept of the cursors in a pool
abbrev pub cursors_of : Serving → List OpenCursor
cursors_of serving = cursors_in serving.pool serving.cursors.items

-- the table, once a line has looked for it, and what is kept of the cursors
pub record Kept : Type 0 where
  pub table : Option Table
  pub cursors : List OpenCursor

abbrev pub kept_of : Session → Kept
kept_of session = record {
  table = session.table;
  cursors = cursors_of session.serving;
}

-- cursors in their pool, each over the table; where no line has looked for one there is no cursor
pub record IsSession (session : Session) : Type 0 where
  pub cursors : AreCursors session.serving.pool session.serving.cursors.items
  pub valid : IfSome session.table IsValidTable
  pub over : MatchOption session.table (session.serving.cursors.items ≡ [])
      (λ table. AllByRecursion (IsOver table) session.serving.cursors.items)

-- cursors in their pool, each over this table
pub record AreOver (table : Table) (serving : Serving) : Type 0 where
  pub valid : IsValidTable table
  pub cursors : AreCursors serving.pool serving.cursors.items
  pub over : AllByRecursion (IsOver table) serving.cursors.items

-- ---- what it stands for

-- lists are kept since lines before the one of this number
abbrev pub AreBefore : ℕ → Machine → Type 0
AreBefore number m = AllByRecursion (λ k. k.line < number) m.kept

-- what is kept, beside files, stands for a state of the machine at the line of this number
pub record IsServing (number : ℕ) (kept : Kept) (files : Files) (texts : store.Texts) (m : Machine)
    : Type 0 where
  pub table : Table
  pub table_is : (kept.table ≡ None) ⊎ (kept.table ≡ Some table)
  pub stands : ServingStands kept.cursors files texts table m
  pub before : AreBefore number m

-- or for there being no table, and no cursor
pub record IsNoServing (kept : Kept) (files : Files) : Type 0 where
  pub table_is : kept.table ≡ None
  pub cursors : kept.cursors ≡ []
  pub stands : Stands files store.NoTable

abbrev pub StandsServed : ℕ → Kept → Files → Served → Type 0
StandsServed number kept files NoStore = IsNoServing kept files
StandsServed number kept files (Serves texts m) = IsServing number kept files texts m

-- the state of the store: the lists that are live
abbrev pub live_state : Served → store.State
live_state NoStore = store.NoTable
live_state (Serves texts m) = store.HasTable texts (segments_of m.live)

-- at the start the segments of a state are the lists that are live
abbrev pub served_of : store.State → Served
served_of store.NoTable = NoStore
served_of (store.HasTable texts segments) = Serves texts
    (started (map (λ entry. (entry.0, entry.1.rows)) (finite.entries segments)))

-- no file is kept for a cursor
abbrev pub HasNoKept : Files → Type 0
HasNoKept files = (file : List ℕ) → IsKeptName file → finite.get files file ≡ None
