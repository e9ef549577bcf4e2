-- What a scan by ids of columns reads and gives, of the query that tests their values.
use Rattle.std.specs.Prelude.{◌≡◌, ℕ, true, false, List, [], length, Option, None, Some}
use Rattle.std.specs.List.{AllZip}
use Rattle.outside.specs.Files.{Files}
use Rattle.outside.specs.Reads.{Entry}
use Rattle.values.specs.declared.value.Value.{Value}
use Rattle.value_ids.specs.Dictionary.{Distinct}
use Rattle.table_schema.specs.ValidQuery.{IsValidQuery}
use Rattle.table_schema.specs.ValidTable.{IsValidTable}
use Rattle.table_schema.specs.declared.query.BoundQuery.{BoundQuery}
use Rattle.table_schema.specs.declared.table.Table.{Table}
use Rattle.eligibility.specs.Rule.{picked}
use Rattle.group_table.specs.Groups.{Adds}
use Rattle.group_table.specs.Kept.{KeptGroups, groups_in}
use Rattle.group_table.specs.Shape.{shape_of}
use Rattle.scan_engine.specs.Scanned.{AddsRows, IsOverfull, selected}
use Rattle.segment_file.specs.Ordered.{ordered}
use Rattle.segment_file.specs.declared.part.Part.{Part}
use Rattle.segment_head.specs.Heads.{IsHeadOf, Seen}
use Rattle.segment_head.specs.Stored.{IsOfImage}
use Rattle.segment_plan.specs.declared.plans.ScanPlan.{ScanPlan}
use Rattle.segment_plan.specs.declared.plans.SegmentPlan.TheVariants.{Scan}
use Rattle.segment_plan.specs.Named.{AreNamedLoaded, query_names}
use Rattle.segment_plan.specs.Plan.{is_emptied}
use Rattle.segment_plan.specs.Planned.{plan_over}
use Rattle.segment_plan.specs.Pruning.{is_pruned}
use Rattle.segment_scan.specs.Images.{AreDocs, AreRead, IsBadIn, LogsScan, LogsScanPartly, choices_for}
use Rattle.segment_opening.specs.Found.{SaysAlike, keeping, unfiltered, values_from}

-- a query of some dictionaries and another of others are alike: of each column there are as many
-- values; those of group columns and of aggregates are the same; and the conjuncts say the same
pub record AreAlike (query asked : BoundQuery) (full given : List (Option Distinct))
    : Type 0 where
  pub counts_same : (column : ℕ) → length (values_from given column)
      ≡ length (values_from full column)
  pub values_same : (column : ℕ) → query_names (unfiltered query) column ≡ true
      → values_from given column ≡ values_from full column
  pub says : AllZip (SaysAlike full given) query.conjuncts asked.conjuncts
  pub groups_same : asked.groups ≡ query.groups
  pub aggs_same : asked.aggs ≡ query.aggs

-- on the image of rows: what a scan of the one head adds, reads and answers is what one of the
-- other does
pub record IsAlike (query asked : BoundQuery) (table : Table) (files : Files)
    (rows : List (List Value)) (full given : Seen) : Type 0 where
  pub adds : (n : ℕ) (added : List (List Value)) (old new : KeptGroups)
      → AreRead asked table files given added → AddsRows asked n added old new
      → Adds (shape_of query) (selected query (ordered table.settings.sorted rows))
      (groups_in old) (groups_in new)
  pub overfull : (added : List (List Value)) (old : KeptGroups)
      → AreRead asked table files given added → IsOverfull asked added old
      → IsOverfull query (selected query (ordered table.settings.sorted rows)) old
  pub docs : (n : ℕ) (a b : Option (List Entry)) → AreDocs asked table (Some files) given n
      → LogsScan asked table (Some files) given n a b → AreDocs query table (Some files) full n
  pub logs : (n : ℕ) (a b : Option (List Entry)) → LogsScan asked table (Some files) given n a b
      → LogsScan query table (Some files) full n a b
  pub logs_partly : (a b : Option (List Entry))
      → LogsScanPartly asked table (Some files) given a b
      → LogsScanPartly query table (Some files) full a b
  pub never_bad : (part : Part) → ¬ (IsBadIn asked table (Some files) given part)
  pub plan_is : (plan : ScanPlan) → IsValidQuery table query → is_pruned query full ≡ false
      → is_emptied query.conjuncts table full ≡ false → picked query table.settings.trees ≡ None
      → plan.choices ≡ choices_for asked table given
      → Scan plan ≡ plan_over query table (ordered table.settings.sorted rows)
  pub choices_same : choices_for asked table given ≡ choices_for query table full

-- so it is for each two heads that differ in dictionaries alone
abbrev pub IdsAreAlike : Type 0
IdsAreAlike =
    (query asked : BoundQuery) (table : Table) (files : Files) (rows : List (List Value))
    (head : Seen) (full given : List (Option Distinct)) → IsValidTable table
    → IsHeadOf table (keeping full head) → AreNamedLoaded query (keeping full head)
    → IsOfImage table files rows (keeping full head) → AreAlike query asked full given
    → IsAlike query asked table files rows (keeping full head) (keeping given head)
