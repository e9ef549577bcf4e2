-- What two cursors that take turns do, a few calls at a time, by the machine of cursors.
use Rattle.std.specs.Prelude.{◌≡◌, codes, ℕ, List, Option, Ok, IfSome, IsSomeAnd}
use Rattle.std.specs.List.{AllByRecursion}
use Rattle.outside.specs.Files.{Files}
use Rattle.values.specs.declared.value.Value.{Value}
use Rattle.table_schema.specs.declared.query.BoundQuery.{BoundQuery}
use Rattle.table_schema.specs.declared.table.Table.{Table}
use Rattle.table_store.specs.State.{Texts}
use Rattle.cursor_serve.specs.Machine.{Machine, closed, fetched, opened, replaced, stepped}
use Rattle.cursor_serve.specs.ServingStands.{OpenCursor, ServingStands}
use Rattle.cursors.specs.Kept.{AreCursors, IsOver, cursors_in}
use Rattle.serving.specs.declared.serving.Serving.{Serving}

-- ---- what is kept

-- cursors in their pool, each over this table
pub record AreOver (table : Table) (serving : Serving) : Type 0 where
  pub cursors : AreCursors serving.pool serving.cursors.items
  pub over : AllByRecursion (IsOver table) serving.cursors.items

-- what is kept of the cursors
abbrev pub cursors_of : Serving → List OpenCursor
cursors_of serving = cursors_in serving.pool serving.cursors.items

-- calls lead the machine from each state that cursors and told files stand for to this one, and
-- this is so of the state before; files go on being told
abbrev pub Leads : Table → (Machine → Machine) → (Machine → Type 0)
    → List OpenCursor → List OpenCursor → Option Files → Option Files → Type 0
Leads table to IsSo old new before after = IfSome before (λ files. (texts : Texts) (m : Machine)
    → ServingStands old files texts table m → IsSomeAnd after (λ left.
    IsSo m × ServingStands new left texts table (to m)))

-- ---- the turns

-- the names of the cursors
abbrev pub early_name : List ℕ
early_name = codes "early"

abbrev pub late_name : List ℕ
late_name = codes "late"

-- a cursor is opened
abbrev pub IsOpened : List ℕ → BoundQuery → Machine → Type 0
IsOpened name query m = (count : ℕ) × ((opened name query m).answer ≡ Ok count)

-- and has answered the first list
abbrev pub begun : List ℕ → BoundQuery → Machine → Machine
begun name query m = (stepped name (opened name query m).machine).machine

-- these rows are in the place of those of a segment, once the early cursor has begun
abbrev pub put_between : BoundQuery → List ℕ → List (List Value) → Machine → Machine
put_between early name rows m = (replaced 1 name rows (begun early_name early m)).machine

-- the late cursor has begun too
abbrev pub both_begun : BoundQuery → BoundQuery → List ℕ → List (List Value) → Machine → Machine
both_begun early late name rows m = begun late_name late (put_between early name rows m)

pub record AreBegun (early late : BoundQuery) (name : List ℕ) (rows : List (List Value))
    (m : Machine) : Type 0 where
  pub first_opened : IsOpened early_name early m
  pub put : (replaced 1 name rows (begun early_name early m)).answer ≡ Ok tt
  pub second_opened : IsOpened late_name late (put_between early name rows m)

-- the early cursor has answered one list more, and both have given their replies
abbrev pub late_fetched : Machine → Machine
late_fetched m = (fetched late_name (stepped early_name m).machine).machine

abbrev pub both_fetched : Machine → Machine
both_fetched m = (fetched early_name (late_fetched m)).machine

pub record AreFetched (first second : List ℕ) (m : Machine) : Type 0 where
  pub late_is : (fetched late_name (stepped early_name m).machine).answer ≡ Ok second
  pub early_is : (fetched early_name (late_fetched m)).answer ≡ Ok first

-- both are closed
abbrev pub both_closed : Machine → Machine
both_closed m = (closed early_name (closed late_name m).machine).machine
