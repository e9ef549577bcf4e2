-- Queries that ask for rows by ids of columns that another query tests.
use Rattle.std.specs.Prelude.{◌≡◌, ℕ, false, List, Option, Some, None, IfSome}
use Rattle.outside.specs.Files.{Files}
use Rattle.values.specs.declared.value.Value.{Value}
use Rattle.table_schema.specs.ValidQuery.{IsValidQuery}
use Rattle.table_schema.specs.ValidTable.{IsValidTable}
use Rattle.table_schema.specs.declared.query.BoundQuery.{BoundQuery}
use Rattle.table_schema.specs.declared.query.Conjunct.{Conjunct}
use Rattle.table_schema.specs.declared.table.Table.{Table}
use Rattle.eligibility.specs.Rule.{picked}
use Rattle.segment_file.specs.Ordered.{ordered}
use Rattle.segment_head.specs.ColumnIds.{with_ids}
use Rattle.segment_head.specs.Heads.{Seen}
use Rattle.segment_head.specs.Stored.{HasImage}
use Rattle.segment_head.specs.declared.stored.Stored.{Stored}
use Rattle.segment_plan.specs.Planned.{told_head}
use Rattle.segment_plan.specs.Pruning.{is_pruned}
use Rattle.segment_opening.specs.Calls.{IsOpened}
use Rattle.segment_opening.specs.Found.{IsAskable, TellsAsked}

-- the query asks for the groups and aggregates of another, of the rows of these conjuncts
pub record AsksBy (query asked : BoundQuery) (conjuncts : List Conjunct) : Type 0 where
  pub conjuncts_are : asked.conjuncts ≡ conjuncts
  pub groups_same : asked.groups ≡ query.groups
  pub aggs_same : asked.aggs ≡ query.aggs

-- a query may be asked of a segment by these conjuncts, with so many ids in place of the values of
-- columns: all else that it names is loaded, and the values of each column may satisfy it
pub record CanAskByIds (query : BoundQuery) (table : Table) (held : Option Files)
    (segment : Stored) (head : Seen) (conjuncts : List Conjunct) (counts : List (Option ℕ))
    : Type 0 where
  pub valid : IsValidTable table
  pub query_valid : IsValidQuery table query
  pub opened : IsOpened table held segment head
  pub kept : is_pruned query head ≡ false
  pub unpicked : picked query table.settings.trees ≡ None
  pub askable : IsAskable query table head conjuncts counts
  pub tells : IfSome held (λ files. (rows : List (List Value)) → HasImage table files segment rows
      → TellsAsked query table conjuncts counts (told_head table
      (ordered table.settings.sorted rows)))

-- the head with so many ids in place of the values of a column, if it has a count
abbrev pub kept_if : ℕ → Option ℕ → Seen → Seen
kept_if column None head = head
kept_if column (Some count) head = with_ids column count head
