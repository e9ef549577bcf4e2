-- What is asked of documents that are merged into groups.
use Rattle.std.specs.Prelude.{◌≡◌, ℕ, ◌-◌, ◌<◌, ◌≤◌, List, length}
use Rattle.std.specs.List.{All}
use Rattle.agg_laws.specs.Merged.{weights}
use Rattle.agg_laws.specs.Numbers.{most_stored, most_values}
use Rattle.agg_laws.specs.Rows.{RowFits, kinds_of, row_weight}
use Rattle.agg_laws.specs.declared.states.AggState.{AggState}
use Rattle.state_columns.specs.Docs.{Doc, Docs, doc_at}
use Rattle.group_table.specs.Groups.{with_states}
use Rattle.group_table.specs.Kept.{HaveValues, KeptGroups, groups_in}
use Rattle.scan_engine.specs.Scanned.{HaveAtMost}
use Rattle.star_reader.specs.declared.asked.GroupColumn.{GroupColumn}
use Rattle.star_reader.specs.Selected.{AreKeyIds, key_values}

-- of a table of documents that are selected these may be merged into groups of as many columns
pub record CanMerge (columns : List GroupColumn) (table : Docs) (docs : List Doc)
    (groups : KeptGroups) : Type 0 where
  pub dims : table.dims ≡ length columns
  pub few_columns : length columns ≤ 16
  pub keyed : All (λ e. AreKeyIds columns e.0) docs
  pub weight_fits : weights row_weight docs ≤ most_stored
  pub few_kinds : length table.kinds ≤ 16
  pub as_many : groups.columns ≡ length columns
  pub kinds : groups.kinds ≡ table.kinds
  pub fits : HaveAtMost (most_values - weights row_weight docs) (groups_in groups)

-- a document of a table of those that are selected has a value in each group column
pub record HasKeyAt (columns : List GroupColumn) (table : Docs) (at : ℕ) : Type 0 where
  pub within : at < length table.docs
  pub dims : table.dims ≡ length columns
  pub few_columns : length columns ≤ 16
  pub ids : AreKeyIds columns (doc_at table.docs at).0

-- it may be merged with these states into groups of as many columns
pub record CanMergeOne (columns : List GroupColumn) (table : Docs) (at : ℕ) (states : List AggState)
    (groups : KeptGroups) : Type 0 where
  pub keyed : HasKeyAt columns table at
  pub as_many : groups.columns ≡ length columns
  pub kinds : kinds_of states ≡ groups.kinds
  pub values : 0 < groups.columns → HaveValues states
  pub fits : RowFits (with_states (groups_in groups)
      (key_values columns (doc_at table.docs at).0) states) most_values
