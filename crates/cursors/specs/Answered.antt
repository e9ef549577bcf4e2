-- What becomes of a cursor that answers segments.
use Rattle.std.specs.Prelude.{◌≡◌, ◌<◌, ◌++◌, ◌-◌, ℕ, List, drop, length, take, Option}
use Rattle.std.specs.FinMap as finite
use Rattle.outside.specs.Files.{Files}
use Rattle.values.specs.declared.value.Value.{Value}
use Rattle.table_schema.specs.declared.table.Table.{Table}
use Rattle.state_pool.specs.Pool.{Pool}
use Rattle.group_table.specs.Groups.{groups_of}
use Rattle.group_table.specs.Kept.{groups_in}
use Rattle.group_table.specs.Pooled.{in_pool}
use Rattle.group_table.specs.Shape.{shape_of}
use Rattle.scan_engine.specs.Scanned.{selected}
use Rattle.segment_head.specs.declared.stored.Stored.{Stored}
use Rattle.cursor_serve.specs.Machine.{most_cursor_groups}
use Rattle.cursors.specs.Added.{OverRows, stored_in}
use Rattle.cursors.specs.declared.cursor.Cursor.{Cursor}

-- the segments that a cursor answers next, up to one
abbrev pub next_stored : Cursor → ℕ → List Stored
next_stored cursor to = stored_in
    (take (to - cursor.answered) (drop cursor.answered cursor.segments))
    (take (to - cursor.answered) (drop cursor.answered cursor.files.items))

-- a cursor has answered so many segments, and nothing else of it but its groups has changed
pub record IsMoved (to : ℕ) (old new : Cursor) : Type 0 where
  pub name : new.name ≡ old.name
  pub query : new.query ≡ old.query
  pub segments : new.segments ≡ old.segments
  pub answered : new.answered ≡ to
  pub files : new.files ≡ old.files
  pub owner : new.groups.owner ≡ old.groups.owner

-- the groups of a cursor are those of these rows
abbrev pub HasRows : Pool → Cursor → List (List Value) → Type 0
HasRows pool cursor rows = groups_in (in_pool cursor.groups pool)
    ≡ groups_of (shape_of cursor.query) (selected cursor.query rows)

-- where the cursor had the groups of some rows, it has those of the rows of these segments too
abbrev pub AnswersRows : Table → Option Files → List Stored → Pool → Pool → Cursor → Cursor → Type 0
AnswersRows table held stored pool pool_new old new = (done : List (List Value))
    → HasRows pool old done
    → OverRows table held stored (λ rows. HasRows pool_new new (done ++ rows))

-- with the rows of these segments it would have more groups than it may
abbrev pub IsOverfull : Table → Option Files → List Stored → Pool → Cursor → Type 0
IsOverfull table held stored pool old = (done : List (List Value)) → HasRows pool old done
    → OverRows table held stored (λ rows. most_cursor_groups
    < finite.len (groups_of (shape_of old.query) (selected old.query (done ++ rows))))
