-- What is asked of a table of documents, and what a call leaves of it.
use Rattle.std.specs.Prelude.{◌≡◌, ℕ, ◌-◌, ◌<◌, ◌≤◌, List, length}
use Rattle.agg_laws.specs.declared.aggregate_kind.AggKind.{AggKind}
use Rattle.agg_laws.specs.Merged.{weights}
use Rattle.agg_laws.specs.Numbers.{most_stored}
use Rattle.agg_laws.specs.Rows.{row_weight}
use Rattle.state_columns.specs.Docs.{Doc, Docs}
use Rattle.state_columns.specs.Region.{range}

-- a table has k ids and states of these kinds
pub record IsOfShape (k : ℕ) (ks : List AggKind) (table : Docs) : Type 0 where
  pub dims : table.dims ≡ k
  pub kinds : table.kinds ≡ ks

-- a call that may add documents leaves the shape of a table
pub record KeepsShape (old new : Docs) : Type 0 where
  pub dims : new.dims ≡ old.dims
  pub kinds : new.kinds ≡ old.kinds

-- there are documents from a number up to another, and their states can be merged
pub record AreMergeable (start end : ℕ) (docs : List Doc) : Type 0 where
  pub order : start < end
  pub within : end ≤ length docs
  pub weight_fits : weights row_weight (range start end docs) ≤ most_stored

-- they can, and the table has room for as many more
pub record FitMerged (start end : ℕ) (table : Docs) : Type 0 where
  pub order : start ≤ end
  pub within : end ≤ length table.docs
  pub weight_fits : weights row_weight (range start end table.docs) ≤ most_stored
  pub spare : end - start ≤ table.spare
