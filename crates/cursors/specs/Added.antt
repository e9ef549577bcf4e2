-- The rows of segments that stand in files, and groups that they are added to.
use Rattle.std.specs.Prelude.{◌≡◌, ◌+◌, ◌*◌, ℕ, List, [], ◌∷◌, length, Option, Some, None, IfSome}
use Rattle.std.specs.List.{AllZip}
use Rattle.outside.specs.Files.{Files}
use Rattle.values.specs.declared.value.Value.{Value}
use Rattle.table_schema.specs.declared.query.BoundQuery.{BoundQuery}
use Rattle.table_schema.specs.declared.table.Table.{Table}
use Rattle.group_table.specs.Kept.{IsTableOf, KeptGroups, groups_in}
use Rattle.scan_engine.specs.Scanned.{HaveAtMost}
use Rattle.segment_head.specs.Stored.{HasImage, stored_rows}
use Rattle.segment_head.specs.declared.stored.Stored.{Stored}
use Rattle.query_executor.specs.Steps.{AddsFirst}

-- segments of these names where they stand, each in a file of its own
abbrev pub stored_in : List (List ℕ) → List (Option (List ℕ)) → List Stored
stored_in [] files = []
stored_in (name ∷ names) [] = []
stored_in (name ∷ names) (None ∷ files) = stored_in names files
stored_in (name ∷ names) (Some file ∷ files) =
    record { file = file; name = name } ∷ stored_in names files

-- the rows of all segments were added to the groups of a table for a query
pub record AddsAll (query : BoundQuery) (table : Table) (held : Option Files) (stored : List Stored)
    (old new : KeptGroups) : Type 0 where
  pub of_query : IsTableOf query new
  pub most : new.most ≡ old.most
  pub fits : (n : ℕ) → HaveAtMost n (groups_in old)
      → HaveAtMost (n + length stored * 1048576) (groups_in new)
  pub groups : AddsFirst query table held stored (length stored) old new

-- where files are told, and those of the segments are images: what holds of their rows
abbrev pub OverRows : Table → Option Files → List Stored → (List (List Value) → Type 0) → Type 0
OverRows table held stored P = IfSome held (λ files. (segments : List (List (List Value)))
    → AllZip (HasImage table files) stored segments → P (stored_rows table segments))
