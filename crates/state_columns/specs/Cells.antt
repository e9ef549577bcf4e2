-- What is kept of a column of states of one kind: what that kind needs.
use Rattle.std.specs.Prelude.{ℕ, ◌+◌, ◌≤◌, map, length, vec_capacity}
use Rattle.agg_laws.specs.declared.aggregate_kind.AggKind.TheVariants as kinds
use Rattle.agg_laws.specs.declared.states.AggState.TheVariants as states
use Rattle.state_columns.specs.declared.state_column.Cells.{Cells}
use Rattle.state_columns.specs.declared.state_column.Cells.TheVariants.{Counts, Sums, Leasts}
use Rattle.state_columns.specs.declared.state_column.Cells.TheVariants.{Greatests, Averages}
use Rattle.state_columns.specs.Columns.{Column}

-- the column that they are
abbrev pub column_in : Cells → ℕ → Column
column_in (Counts v) n = record {
  kind = kinds.Count;
  states = map states.Count v.items;
  spare = n;
}
column_in (Sums v) n = record { kind = kinds.Sum; states = map states.Sum v.items; spare = n }
column_in (Leasts v) n = record {
  kind = kinds.Least;
  states = map states.Least v.items;
  spare = n;
}
column_in (Greatests v) n = record {
  kind = kinds.Greatest;
  states = map states.Greatest v.items;
  spare = n;
}
column_in (Averages v) n = record {
  kind = kinds.Average;
  states = map states.Average v.items;
  spare = n;
}

-- there is room for so many more
abbrev pub HasRoom : Cells → ℕ → Type 0
HasRoom (Counts v) n = length v.items + n ≤ vec_capacity v
HasRoom (Sums v) n = length v.items + n ≤ vec_capacity v
HasRoom (Leasts v) n = length v.items + n ≤ vec_capacity v
HasRoom (Greatests v) n = length v.items + n ≤ vec_capacity v
HasRoom (Averages v) n = length v.items + n ≤ vec_capacity v
