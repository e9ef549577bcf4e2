-- A cursor that was opened.
use Rattle.std.specs.Prelude.{◌≡◌, ℕ, List, [], Some, map}
use Rattle.table_schema.specs.declared.query.BoundQuery.{BoundQuery}
use Rattle.state_pool.specs.Pool.{Pool}
use Rattle.group_table.specs.Groups.{groups_of}
use Rattle.group_table.specs.Kept.{groups_in}
use Rattle.group_table.specs.Pooled.{in_pool}
use Rattle.group_table.specs.Shape.{shape_of}
use Rattle.segment_file.specs.Names.{file_of}
use Rattle.cursors.specs.Kept.{IsCursorIn}
use Rattle.cursors.specs.declared.cursor.Cursor.{Cursor}

-- a cursor over these segments, each in the file of a live one, with its groups over no rows
pub record IsNewCursor (owner : ℕ) (name : List ℕ) (query : BoundQuery) (segments : List (List ℕ))
    (pool : Pool) (cursor : Cursor) : Type 0 where
  pub name_is : cursor.name ≡ name
  pub query_is : cursor.query ≡ query
  pub segments_are : cursor.segments ≡ segments
  pub none : cursor.answered ≡ 0
  pub files_are : cursor.files.items ≡ map (λ segment. Some (file_of segment)) segments
  pub owner_is : cursor.groups.owner ≡ owner
  pub groups_are : groups_in (in_pool cursor.groups pool) ≡ groups_of (shape_of query) []
  pub kept : IsCursorIn pool cursor
