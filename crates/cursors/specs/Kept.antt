-- What is kept of cursors, and the pool that their groups are in.
use Rattle.std.specs.Prelude.{◌≡◌, ◌≢◌, ◌<◌, ◌≤◌, ◌*◌, ℕ, Bool, true, false, nat_eq, List, [], ◌∷◌, drop, length, map, is_some, suc, Option, Some, None, option_map, if◌then◌else◌}
use Rattle.std.specs.List.{All, AllByRecursion, IsDistinct, list_any}
use Rattle.std.specs.Ordering.{eq_by_cmp}
use Rattle.outside.specs.Files.{name_order}
use Rattle.table_schema.specs.ValidQuery.{IsValidQuery}
use Rattle.table_schema.specs.declared.table.Table.{Table}
use Rattle.state_pool.specs.Pool.{Pool, held, kinds_at, quota_of, slots_of}
use Rattle.group_table.specs.Kept.{IsTableOf, groups_in}
use Rattle.group_table.specs.Pooled.{IsTableIn, in_pool}
use Rattle.scan_engine.specs.Scanned.{HaveAtMost}
use Rattle.segment_file.specs.Names.{IsSegmentName}
use Rattle.cursor_serve.specs.Machine.{most_cursor_groups, most_cursors}
use Rattle.cursor_serve.specs.ServingStands.{OpenCursor}
use Rattle.cursors.specs.declared.cursor.Cursor.{Cursor}

-- ---- the pool

-- the owner that is for no cursor and takes no slot; those below are for cursors
abbrev pub keeper : ℕ
keeper = 16

-- an owner for each cursor and one more, each with the most groups of a cursor, of as many kinds as
-- a query may have aggregates
pub record IsPool (pool : Pool) : Type 0 where
  pub owners : length pool.quotas ≡ 17
  pub quotas : (owner : ℕ) → owner < 17 → quota_of pool owner ≡ most_cursor_groups
  pub width : pool.width ≡ 16

-- such a pool in which nobody holds a slot
pub record IsEmptyPool (pool : Pool) : Type 0 where
  pub pool_is : IsPool pool
  pub free : (owner : ℕ) → held pool owner ≡ 0

-- the quotas are as before, and every other owner has its kinds and its slots as before
pub record KeepsAside (one two : ℕ) (old new : Pool) : Type 0 where
  pub quotas : new.quotas ≡ old.quotas
  pub width : new.width ≡ old.width
  pub kinds : (other : ℕ) → other ≢ one → other ≢ two → kinds_at new other ≡ kinds_at old other
  pub slots : (other : ℕ) → other ≢ one → other ≢ two → slots_of new other ≡ slots_of old other

-- ---- cursors

-- a cursor as callers see it: its groups are those in the pool
abbrev pub cursor_in : Pool → Cursor → OpenCursor
cursor_in pool cursor = record {
  name = cursor.name;
  query = cursor.query;
  segments = cursor.segments;
  answered = cursor.answered;
  files = cursor.files.items;
  groups = groups_in (in_pool cursor.groups pool);
}

abbrev pub cursors_in : Pool → List Cursor → List OpenCursor
cursors_in pool cursors = map (cursor_in pool) cursors

-- a cursor has a table for its query in the pool, with at most so many values as its segments may
-- have; and each segment that it has still to answer stands under some name
pub record IsCursorIn (pool : Pool) (cursor : Cursor) : Type 0 where
  pub owner : cursor.groups.owner < most_cursors
  pub owner_is : cursor.owner ≡ cursor.groups.owner
  pub table : IsTableIn cursor.groups pool
  pub of_query : IsTableOf cursor.query (in_pool cursor.groups pool)
  pub fits : HaveAtMost (cursor.answered * 1048576) (groups_in (in_pool cursor.groups pool))
  pub answered : cursor.answered ≤ length cursor.segments
  pub few : length cursor.segments ≤ 512
  pub files : length cursor.files.items ≡ length cursor.segments
  pub there : AllByRecursion (λ file. is_some file ≡ true)
      (drop cursor.answered cursor.files.items)

-- whether two names are the same
abbrev pub same_name : List ℕ → List ℕ → Bool
same_name = eq_by_cmp name_order

-- the owners of the groups of cursors
abbrev pub owners_of : List Cursor → List ℕ
owners_of cursors = map (λ cursor. cursor.groups.owner) cursors

-- cursors of names and owners of their own, and no other owner holds a slot
pub record AreCursors (pool : Pool) (cursors : List Cursor) : Type 0 where
  pub pool_is : IsPool pool
  pub few : length cursors ≤ most_cursors
  pub each : AllByRecursion (IsCursorIn pool) cursors
  pub owners : IsDistinct nat_eq (owners_of cursors)
  pub names : IsDistinct same_name (map (λ cursor. cursor.name) cursors)
  pub free : (owner : ℕ) → list_any (nat_eq owner) (owners_of cursors) ≡ false
      → held pool owner ≡ 0

-- the query of a cursor is one over the table, and its segments are named as segments are
pub record IsOver (table : Table) (cursor : Cursor) : Type 0 where
  pub query : IsValidQuery table cursor.query
  pub named : All IsSegmentName cursor.segments

-- ---- the cursor of a name

-- the place of the cursor of a name, if there is one
abbrev pub place_under : List ℕ → List Cursor → Option ℕ
place_under name [] = None
place_under name (cursor ∷ cursors) =
    if same_name name cursor.name then Some 0 else option_map suc (place_under name cursors)
