-- What is not looked at has no row for the query.
use Rattle.std.specs.Prelude.{◌≡◌, ◌⊎◌, ℕ, true, false, List, map, length, Some, slice_get}
use Rattle.std.specs.List.{AllByRecursion}
use Rattle.values.specs.declared.value.Value.{Value}
use Rattle.table_schema.specs.declared.query.BoundQuery.{BoundQuery}
use Rattle.table_schema.specs.declared.query.Conjunct.{Conjunct}
use Rattle.table_schema.specs.declared.settings.TreeSetting.{TreeSetting}
use Rattle.table_schema.specs.declared.table.Table.{Table}
use Rattle.table_schema.specs.ValidQuery.{IsValidQuery}
use Rattle.table_schema.specs.ValidSettings.{IsValidTree}
use Rattle.table_schema.specs.ValidTable.{IsValidTable}
use Rattle.table_schema.specs.Conditions.{all_hold}
use Rattle.value_ids.specs.Dictionary.{Distinct}
use Rattle.segment_file.specs.Bounds.{bounds_of}
use Rattle.segment_head.specs.Heads.{IsHead, IsPartOf, Seen}
use Rattle.segment_file.specs.Image.{CanHold, dictionary_of, image}
use Rattle.segment_file.specs.Names.{IsSegmentName}
use Rattle.segment_file.specs.Ordered.{ordered}
use Rattle.segment_file.specs.Parts.{columns_of}
use Rattle.segment_plan.specs.Explained.{IsDetailed, explained_by, explained_over}
use Rattle.segment_plan.specs.Factors.{AreWholeLoaded, factors_of}
use Rattle.segment_plan.specs.Matched.{AreLoaded}
use Rattle.segment_plan.specs.Plan.{is_emptied, plan_of}
use Rattle.segment_plan.specs.Planned.{factors_over, plan_over}
use Rattle.segment_plan.specs.Pruning.{is_pruned}

-- a head tells how many these rows are, the bounds of their columns, and dictionaries of these
-- where they are loaded, as that of their image does
pub record TellsOf (table : Table) (rows : List (List Value)) (head : Seen) : Type 0 where
  pub rows_are : head.rows ≡ length rows
  pub bounds_are : head.bounds ≡ bounds_of (map (dictionary_of table rows) (columns_of table))
  pub dictionaries_are : (column : ℕ) (d : Distinct) → slice_get head.dictionaries column
      ≡ Some (Some d) → d ≡ dictionary_of table rows column

-- no row satisfies all the conjuncts
abbrev pub NoneHolds : List Conjunct → List (List Value) → Type 0
NoneHolds conjuncts rows = AllByRecursion (λ row. all_hold row conjuncts ≡ false) rows

-- no row of a segment that is pruned satisfies the query
abbrev pub PrunedHasNone : Type 0
PrunedHasNone = (query : BoundQuery) (table : Table) (rows : List (List Value)) (head : Seen)
    → TellsOf table rows head → is_pruned query head ≡ true → NoneHolds query.conjuncts rows

-- no row of a segment with a column that is left without a value satisfies the query
abbrev pub EmptyHasNone : Type 0
EmptyHasNone = (conjuncts : List Conjunct) (table : Table) (rows : List (List Value)) (head : Seen)
    → TellsOf table rows head → AreLoaded conjuncts head → is_emptied conjuncts table head ≡ true
    → NoneHolds conjuncts rows

-- the head of an image, whole or with some of its dictionaries, tells of the rows of the segment
abbrev pub HeadTells : Type 0
HeadTells =
    (table : Table) (name file : List ℕ) (rows : List (List Value)) (whole head : Seen)
    → IsValidTable table → IsSegmentName name → CanHold table rows
    → IsHead table name file (image 1 table name rows) whole → IsPartOf whole head
    → TellsOf table (ordered table.settings.sorted rows) head

-- rows have one plan, whatever else of their segment is loaded
abbrev pub OnePlan : Type 0
OnePlan = (query : BoundQuery) (table : Table) (rows : List (List Value)) (a b : Seen)
    → TellsOf table rows a → TellsOf table rows b → AreLoaded query.conjuncts a
    → AreLoaded query.conjuncts b → plan_of query table a ≡ plan_of query table b

-- rows give a tree one list of factors, whatever else of their segment is loaded
abbrev pub OneFactors : Type 0
OneFactors =
    (query : BoundQuery) (table : Table) (rows : List (List Value)) (tree : TreeSetting)
    (a b : Seen) → TellsOf table rows a → TellsOf table rows b → AreLoaded query.conjuncts a
    → AreLoaded query.conjuncts b → AreWholeLoaded query a tree → AreWholeLoaded query b tree
    → factors_of query a tree ≡ factors_of query b tree

-- ---- the head of a segment, and its rows

-- what a plan looks at is known: the bounds exclude all rows, or the dictionaries of the columns
-- that conjuncts name alone were loaded
abbrev pub IsPlannable : BoundQuery → Seen → Type 0
IsPlannable query head = (is_pruned query head ≡ true) ⊎ AreLoaded query.conjuncts head

-- a head that tells of rows has their plan
abbrev pub PlanIsOver : Type 0
PlanIsOver = (query : BoundQuery) (table : Table) (rows : List (List Value)) (head : Seen)
    → IsValidQuery table query → TellsOf table rows head → IsPlannable query head
    → plan_of query table head ≡ plan_over query table rows

-- it gives a tree their factors
abbrev pub FactorsAreOver : Type 0
FactorsAreOver =
    (query : BoundQuery) (table : Table) (rows : List (List Value)) (tree : TreeSetting)
    (head : Seen) → IsValidQuery table query → IsValidTree table.schema.fields tree
    → TellsOf table rows head → AreLoaded query.conjuncts head → AreWholeLoaded query head tree
    → factors_of query head tree ≡ factors_over query table rows tree

-- what is written of its plan is what is written of theirs
abbrev pub ExplainedIsOver : Type 0
ExplainedIsOver =
    (query : BoundQuery) (table : Table) (rows : List (List Value)) (head : Seen)
    → IsValidTable table → IsValidQuery table query → TellsOf table rows head
    → IsPlannable query head → IsDetailed query table head (plan_of query table head)
    → explained_by query table head ≡ explained_over query table rows
