-- What is done with one segment of a table for a query.
use Rattle.std.specs.Prelude.{◌≡◌, ◌+◌, ◌++◌, ℕ, List, Option, IfSome, drop, take}
use Rattle.std.specs.List.{AllZip}
use Rattle.outside.specs.Files.{Files}
use Rattle.values.specs.declared.value.Value.{Value}
use Rattle.table_schema.specs.declared.query.BoundQuery.{BoundQuery}
use Rattle.table_schema.specs.declared.table.Table.{Table}
use Rattle.group_table.specs.Groups.{Adds}
use Rattle.group_table.specs.Kept.{IsTableOf, KeptGroups, groups_in}
use Rattle.group_table.specs.Shape.{shape_of}
use Rattle.scan_engine.specs.Scanned.{HaveAtMost, IsOverfull, selected}
use Rattle.segment_head.specs.Heads.{Seen}
use Rattle.segment_file.specs.Ordered.{ordered}
use Rattle.segment_plan.specs.declared.plans.SegmentPlan.{SegmentPlan}
use Rattle.segment_plan.specs.Explained.{IsDetailed}
use Rattle.segment_plan.specs.Laws.{IsPlannable}
use Rattle.segment_plan.specs.Plan.{plan_of}
use Rattle.segment_head.specs.declared.fault.EngineFault.TheVariants as engine
use Rattle.segment_head.specs.declared.fault.EngineFault.{EngineFault}
use Rattle.sql_reply.specs.declared.fault.SqlFault.TheVariants as sql
use Rattle.query_executor.specs.declared.fault.ExecutorFault.{ExecutorFault}
use Rattle.query_executor.specs.declared.fault.ExecutorFault.TheVariants.{NotASegment, ReadFault, Sql}
use Rattle.query_executor.specs.Lines.{in_order, lines_of}
use Rattle.segment_head.specs.Stored.{HasImage, names_of, stored_rows}
use Rattle.segment_head.specs.declared.stored.Stored.{Stored}
use Rattle.segment_opening.specs.Opened.{IsHeadIn}

-- ---- the rows of a segment

-- the rows that satisfy the filter, of those that the segment has in the order of its file
abbrev pub selected_in : BoundQuery → Table → List (List Value) → List (List Value)
selected_in query table rows = selected query (ordered table.settings.sorted rows)

-- the groups are those of before, whatever they were, with these rows in them
abbrev pub AddsGroups : BoundQuery → List (List Value) → KeptGroups → KeptGroups → Type 0
AddsGroups query rows old new = Adds (shape_of query) rows (groups_in old) (groups_in new)

-- the groups are still those of the query, and no aggregate is of more values than those of a
-- segment more; where the segment's file is told to be the image of rows, those of them that
-- satisfy the filter were added
pub record AddsStored (query : BoundQuery) (table : Table) (held : Option Files) (segment : Stored)
    (old new : KeptGroups) : Type 0 where
  pub of_query : IsTableOf query new
  pub most : new.most ≡ old.most
  pub fits : (n : ℕ) → HaveAtMost n (groups_in old) → HaveAtMost (n + 1048576) (groups_in new)
  pub told : IfSome held (λ files. (rows : List (List Value)) → HasImage table files segment rows
      → AddsGroups query (selected_in query table rows) old new)

-- where files are told: if the segment's file is the image of rows, there are more groups with
-- those of them that satisfy the filter than there may be
abbrev pub IsStoredOverfull : BoundQuery → Table → Option Files → Stored → KeptGroups → Type 0
IsStoredOverfull query table held segment old =
    IfSome held (λ files. (rows : List (List Value)) → HasImage table files segment rows
    → IsOverfull query (selected_in query table rows) old)

-- ---- the rows of segments

-- what the fault of the answer of a segment is for a query that may have so many groups, by the
-- segment's number
abbrev pub fault_at : ℕ → ℕ → EngineFault → ExecutorFault
fault_at most at engine.TooManyGroups = Sql (sql.TooManyGroups most)
fault_at most at (engine.NotASegment part) = NotASegment at part
fault_at most at engine.ReadFault = ReadFault
fault_at most at engine.NoMemory = Sql sql.NoMemory

-- the rows of the first so many segments that satisfy the filter were added to the groups, where
-- files are told and are images
abbrev pub AddsFirst : BoundQuery → Table → Option Files → List Stored → ℕ → KeptGroups → KeptGroups
    → Type 0
AddsFirst query table held stored n old new =
    IfSome held (λ files. (segments : List (List (List Value)))
    → AllZip (HasImage table files) stored segments
    → AddsGroups query (selected query (stored_rows table (take n segments))) old new)

-- with the rows of all segments there are more groups than there may be, where files are told and
-- are images
abbrev pub AreOverfull : BoundQuery → Table → Option Files → List Stored → KeptGroups → Type 0
AreOverfull query table held stored old =
    IfSome held (λ files. (segments : List (List (List Value)))
    → AllZip (HasImage table files) stored segments
    → IsOverfull query (selected query (stored_rows table segments)) old)

-- ---- the plans of segments

-- the head of a segment was opened as far as its plan for a query and what is said of it ask, and
-- this is the plan
pub record IsPlannedIn (query : BoundQuery) (table : Table) (held : Option Files) (segment : Stored)
    (head : Seen) (plan : SegmentPlan) : Type 0 where
  pub known : IsPlannable query head
  pub plan_is : plan ≡ plan_of query table head
  pub detailed : IsDetailed query table head plan
  pub image : IsHeadIn table held segment head

-- where files are told: if the segment's file is the image of rows, its line was added
abbrev pub AddsLine : (List ℕ → List (List Value) → List ℕ) → Table → Option Files → Stored → List ℕ
    → List ℕ → Type 0
AddsLine line table held segment old new =
    IfSome held (λ files. (rows : List (List Value)) → HasImage table files segment rows
    → new ≡ old ++ line segment.name (ordered table.settings.sorted rows))

-- where files are told and are images, these are the lines of all segments but those from the n-th
-- on
abbrev pub HasLines : (List ℕ → List (List Value) → List ℕ) → Table → Option Files → List Stored
    → ℕ → List ℕ → Type 0
HasLines line table held stored n text =
    IfSome held (λ files. (segments : List (List (List Value)))
    → AllZip (HasImage table files) stored segments
    → text ++ lines_of line (drop n (names_of stored)) (drop n (in_order table segments))
    ≡ lines_of line (names_of stored) (in_order table segments))
