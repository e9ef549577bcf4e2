-- What a query asks of the documents of a star-tree.
use Rattle.std.specs.Prelude.{◌≡◌, ℕ, ◌<◌, ◌≤◌, pos, List, map, length, slice_index_or}
use Rattle.std.specs.List.{All}
use Rattle.values.specs.declared.value.Value.{Value}
use Rattle.values.specs.declared.value.Value.TheVariants.{Whole}
use Rattle.agg_laws.specs.declared.aggregate_kind.AggKind.{AggKind}
use Rattle.agg_laws.specs.declared.aggregate_kind.AggKind.TheVariants as kinds
use Rattle.agg_laws.specs.declared.states.AggState.{AggState}
use Rattle.agg_laws.specs.declared.states.AggState.TheVariants.{Count}
use Rattle.agg_laws.specs.declared.tree_shape.TreeShape.{TreeShape}
use Rattle.agg_laws.specs.Rows.{row_weight}
use Rattle.state_columns.specs.Docs.{Doc}
use Rattle.agg_laws.specs.Merged.{weights}
use Rattle.agg_laws.specs.Tree.{dim}
use Rattle.group_table.specs.Groups.{Group}
use Rattle.group_table.specs.Kept.{KeptGroups}
use Rattle.star_reader.specs.declared.asked.Asked.{Asked}
use Rattle.star_reader.specs.declared.asked.GroupColumn.{GroupColumn}

-- the value of an id in a group column
abbrev pub value_of : GroupColumn → ℕ → Value
value_of column id = slice_index_or column.values.now.values id (Whole (pos 0))

-- the key of a document: the values of its ids in the group columns, in their order
abbrev pub key_of : List GroupColumn → List ℕ → List Value
key_of columns ids = map (λ column. value_of column (dim column.dim ids)) columns

-- the states of a document for the aggregates: those of their pairs
abbrev pub states_of : List ℕ → List AggState → List AggState
states_of pairs states = map (λ pair. slice_index_or states pair (Count 0)) pairs

-- what documents give to groups: each its key, with its states for the aggregates
abbrev pub entry_of : Asked → Doc → Group
entry_of asked e = (key_of asked.columns.now e.0, states_of asked.pairs.now e.1)

-- what each document gives, in the order of the documents
abbrev pub entries_of : Asked → List Doc → List Group
entries_of asked docs = map (entry_of asked) docs

-- each group column has a value for the document's id
abbrev pub HasKey : List GroupColumn → List ℕ → Type 0
HasKey columns ids =
    All (λ column. dim column.dim ids < length column.values.now.values) columns

-- documents that may be merged: each has a key, and together they stand for at most so many rows
pub record AreSound (asked : Asked) (rows : ℕ) (docs : List Doc) : Type 0 where
  pub keyed : All (λ e. HasKey asked.columns.now e.0) docs
  pub weight_fits : weights row_weight (entries_of asked docs) ≤ rows

-- the kinds of the aggregates
abbrev pub kinds_for : List ℕ → List AggKind → List AggKind
kinds_for pairs all = map (λ pair. slice_index_or all pair kinds.Count) pairs

-- group columns are split dimensions, and aggregates are pairs
pub record AreAsked (shape : TreeShape) (asked : Asked) : Type 0 where
  pub few_columns : length asked.columns.now ≤ 16
  pub few_pairs : length asked.pairs.now ≤ 16
  pub dims : All (λ column. column.dim < shape.dims) asked.columns.now
  pub pairs : All (λ pair. pair < length shape.kinds) asked.pairs.now

-- the table is one for groups of so many columns and such aggregates
pub record IsTableFor (shape : TreeShape) (asked : Asked) (table : KeptGroups) : Type 0 where
  pub columns : table.columns ≡ length asked.columns.now
  pub kinds : table.kinds ≡ kinds_for asked.pairs.now shape.kinds
