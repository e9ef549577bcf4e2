-- Rows of columns that become documents of a table.
use Rattle.std.specs.Prelude.{◌≡◌, ℕ, ℤ, ◌<◌, ◌≤◌, List, [], ◌∷◌, ◌++◌, length, All}
use Rattle.agg_laws.specs.declared.aggregate_kind.AggKind.{AggKind}
use Rattle.agg_laws.specs.declared.states.AggState.{AggState}
use Rattle.agg_laws.specs.declared.tree_shape.TreeShape.{TreeShape}
use Rattle.agg_laws.specs.Merged.{weights}
use Rattle.agg_laws.specs.Rows.{row_weight}
use Rattle.state_columns.specs.Docs.{Doc, Docs}
use Rattle.star_rows.specs.Columns.{row_count}

-- columns of ids and of numbers for a shape, with an entry for each row
pub record HasColumns (shape : TreeShape) (ids : List (List ℕ)) (values : List (List ℤ)) : Type 0
  where
    pub few_kinds : length shape.kinds ≤ 16
    pub some_dims : 1 ≤ shape.dims
    pub dims : length ids ≡ shape.dims
    pub metrics : length values ≡ length shape.kinds
    pub ids_long : All (λ c. length c ≡ row_count ids) ids
    pub values_long : All (λ c. length c ≡ row_count ids) values

-- columns of ids and of numbers for a table, with ids in one place and numbers in another
pub record HasRow (place row : ℕ) (ids : List (List ℕ)) (values : List (List ℤ)) (table : Docs)
    : Type 0 where
  pub dims : length ids ≡ table.dims
  pub metrics : length values ≡ length table.kinds
  pub ids_long : All (λ c. place < length c) ids
  pub values_long : All (λ c. row < length c) values

-- a table of the shape, with these documents, which stand for so many rows at most
pub record IsTableOf (shape : TreeShape) (docs : List Doc) (rows : ℕ) (table : Docs) : Type 0 where
  pub dims : table.dims ≡ shape.dims
  pub kinds : table.kinds ≡ shape.kinds
  pub docs_are : table.docs ≡ docs
  pub weight_fits : weights row_weight table.docs ≤ rows

-- a table has gained the document of one row
pub record GainsRow (ids : List ℕ) (states : List AggState) (old new : Docs) : Type 0 where
  pub appended : new.docs ≡ old.docs ++ (ids, states) ∷ []
  pub weighs : row_weight states ≤ 1
  pub dims : new.dims ≡ old.dims
  pub kinds : new.kinds ≡ old.kinds
