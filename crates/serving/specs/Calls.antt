-- What calls of cursors answer, and what they leave, by the machine of cursors.
use Rattle.std.specs.Prelude.{◌≡◌, ℕ, false, true, List, [], ◌∷◌, length, Option, Some, None, Result, Ok, Err, IfSome, IsSomeAnd, MatchOption, OnErr, OnOk, is_some}
use Rattle.std.specs.FinMap as finite
use Rattle.std.specs.List.{AllByRecursion, list_any}
use Rattle.outside.specs.Files.{Files}
use Rattle.outside.specs.Seen.{Seen}
use Rattle.values.specs.declared.value.Value.{Value}
use Rattle.table_schema.specs.declared.query.BoundQuery.{BoundQuery}
use Rattle.table_schema.specs.declared.table.Table.{Table}
use Rattle.segment_build.specs.Growing.{trees_fit}
use Rattle.segment_file.specs.Names.{file_of}
use Rattle.segment_head.specs.declared.stored.Stored.{Stored}
use Rattle.segment_reads.specs.Logs.{LogsOf}
use Rattle.segment_reads.specs.Reads.{LogsEach, ReadsPlanned}
use Rattle.table_store.specs.Kept.{IsKeptName, kept_name}
use Rattle.table_store.specs.Stands.{Stands}
use Rattle.table_store.specs.State.{HasTable, Texts}
use Rattle.cursor_serve.specs.Machine as machine
use Rattle.cursor_serve.specs.Machine.{After, Machine}
use Rattle.cursor_serve.specs.ServingStands.{OpenCursor, ServingStands, segments_of}
use Rattle.serving.specs.Closed.{without_files}
use Rattle.cursors.specs.Kept.{same_name}
use Rattle.serving.specs.declared.fault.ServeFault.{ServeFault}
use Rattle.serving.specs.declared.fault.ServeFault.TheVariants as fault

-- ---- the answer, and the state that is left

-- a refusal of the machine is answered, and nothing has changed; or a device or memory failed, and
-- the store stands for the live lists as before
abbrev pub IsRefusedAs : {A : Type 0} → After A → (Machine → Type 0) → Type 0 → ServeFault → Type 0
IsRefusedAs after stands live fault.CursorTaken =
    (after.answer ≡ Err machine.CursorTaken) × stands after.machine
IsRefusedAs after stands live fault.TooManyCursors =
    (after.answer ≡ Err machine.TooManyCursors) × stands after.machine
IsRefusedAs after stands live fault.NoCursor =
    (after.answer ≡ Err machine.NoCursor) × stands after.machine
IsRefusedAs after stands live fault.TooManyGroups =
    (after.answer ≡ Err machine.TooManyGroups) × stands after.machine
IsRefusedAs after stands live fault.NoSegment =
    (after.answer ≡ Err machine.NoSegment) × stands after.machine
IsRefusedAs after stands live fault.TooLarge = ⊥
IsRefusedAs after stands live (fault.NotASegment part) = ⊥
IsRefusedAs after stands live fault.ReadFault = live
IsRefusedAs after stands live fault.WriteFault = live
IsRefusedAs after stands live fault.NoMemory = live

-- what is answered is the answer of a step of the machine, and what is left stands for the machine
-- after it; or it is refused so
abbrev pub IsAnsweredAs : {A : Type 0} → After A → (Machine → Type 0) → Type 0
    → Result A ServeFault → Type 0
IsAnsweredAs after stands live (Ok a) = (after.answer ≡ Ok a) × stands after.machine
IsAnsweredAs after stands live (Err why) = IsRefusedAs after stands live why

-- a call does what a step of the machine does, from each state of it that cursors and told files
-- stand for; files go on being told
abbrev pub Serves : {A : Type 0} → (Machine → After A) → Table → List OpenCursor → List OpenCursor
    → Option Files → Option Files → Result A ServeFault → Type 0
Serves step table old new before after result = IfSome before (λ files. (texts : Texts)
    (m : Machine) → ServingStands old files texts table m → IsSomeAnd after (λ left.
    IsAnsweredAs (step m) (ServingStands new left texts table)
    (Stands left (HasTable texts (segments_of m.live))) result))

-- a star-tree of the rows that are to come in the place of a list is too large, and nothing has
-- changed
pub record HasNoPlaceFor (rows : List (List Value)) (name : List ℕ) (table : Table)
    (old new : List OpenCursor) (before after : Option Files) : Type 0 where
  pub too_large : trees_fit table rows ≡ false
  pub unchanged : IfSome before (λ files. (texts : Texts) (m : Machine)
      → ServingStands old files texts table m → IsSomeAnd after (λ left.
      (is_some (finite.get m.live name) ≡ true) × ServingStands new left texts table m))

-- ---- what is read

-- of the files of these segments, each with its rows, was read what the plan of a query asks, and
-- of no other file anything
pub record ReadsOf {A : Type 0} (query : BoundQuery) (table : Table) (stored : List Stored)
    (old new : Seen) (result : Result A ServeFault) : Type 0 where
  pub log : LogsOf stored old.log new.log
  pub reads : OnOk result (LogsEach (ReadsPlanned query table true) table old.held stored
      (length stored) old.log new.log)
  pub reads_of_fault : OnErr result (LogsEach (ReadsPlanned query table false) table old.held
      stored (length stored) old.log new.log)

-- ---- what is written

-- some kept files are gone, and nothing else
abbrev pub LosesKept : Option Files → Option Files → Type 0
LosesKept old new = (names : List (List ℕ)) × AllByRecursion IsKeptName names
    × (new ≡ without_files names old)

-- the told files are as they were but for that of a segment, and the one that it is kept as from a
-- line on
abbrev pub SameButOf : List ℕ → ℕ → Option Files → Option Files → Type 0
SameButOf name line old new =
    MatchOption old (new ≡ None) (λ files. IsSomeAnd new (λ left. (other : List ℕ)
    → list_any (same_name other) (file_of name ∷ kept_name name line ∷ []) ≡ false
    → finite.get left other ≡ finite.get files other))
