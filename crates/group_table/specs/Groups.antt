-- The groups of some rows: those of one key, which is the values in the group columns, with the
-- aggregates of their numbers.
use Rattle.std.specs.Prelude.{◌≡◌, ℕ, ℤ, pos, Bool, List, [], ◌∷◌, map, filter, Option, Some, None}
use Rattle.std.specs.List.{list_any}
use Rattle.std.specs.Option.{option_map_or}
use Rattle.std.specs.FinMap as finite
use Rattle.std.specs.Cmp.Lexicographic.{slice_cmp}
use Rattle.std.specs.declared.cmp.Ordering.{Ordering}
use Rattle.std.specs.Ordering.{eq_by_cmp}
use Rattle.values.specs.declared.value.Value.{Value}
use Rattle.values.specs.declared.value.Value.TheVariants.{Whole, Text}
use Rattle.values.specs.Order.{value_order}
use Rattle.agg_laws.specs.declared.states.AggState.{AggState}
use Rattle.agg_laws.specs.States.{state_of}
use Rattle.agg_laws.specs.Rows.{merged_rows}
use Rattle.agg_laws.specs.Merged.{join_some}
use Rattle.table_schema.specs.Conditions.{cell}
use Rattle.table_schema.specs.declared.query.Agg.{Agg}
use Rattle.group_table.specs.Shape.{Shape}

-- the number that a value is; a text counts as 0
abbrev pub number_of : Value → ℤ
number_of (Whole number) = number
number_of (Text text) = pos 0

-- the number of a row for an aggregate: that in its column, and any where rows are counted
abbrev pub number_for : Agg → List Value → ℤ
number_for agg row = option_map_or (λ column. number_of (cell row column)) agg.column (pos 0)

-- the aggregates of some rows
abbrev pub states_of : List Agg → List (List Value) → List AggState
states_of aggs rows = map (λ agg. state_of agg.kind (map (number_for agg) rows)) aggs

-- the key of a row: its values in the group columns
abbrev pub key_of : List ℕ → List Value → List Value
key_of groups row = map (cell row) groups

-- keys value by value
abbrev pub key_order : List Value → List Value → Ordering
key_order = slice_cmp value_order

-- whether the row has this key
abbrev pub has_key : List ℕ → List Value → List Value → Bool
has_key groups key row = eq_by_cmp key_order key (key_of groups row)

-- whether there is a group of this key: some row has it, or it is the one key that there is without
-- group columns
abbrev pub is_key : List ℕ → List (List Value) → List Value → Bool
is_key [] rows key = eq_by_cmp key_order key []
is_key (column ∷ columns) rows key = list_any (has_key (column ∷ columns) key) rows

-- the keys of groups: those of the rows, and without group columns the empty one, even over none
abbrev pub keys_of : List ℕ → List (List Value) → List (List Value)
keys_of [] rows = [] ∷ []
keys_of (column ∷ columns) rows = map (key_of (column ∷ columns)) rows

-- a key with the aggregates of its rows
abbrev pub Group : Type 0
Group = List Value × List AggState

-- groups by their keys
abbrev pub Groups : Type 0
Groups = finite.FinMap key_order (List AggState)

-- the groups of some rows: to each key the aggregates of the rows that have it
abbrev pub groups_of : Shape → List (List Value) → Groups
groups_of shape rows = finite.from_entries
    (map (λ key. (key, states_of shape.aggs (filter (has_key shape.groups key) rows)))
    (keys_of shape.groups rows))

-- the aggregates of some rows, if there are any
abbrev pub some_states : List Agg → List (List Value) → Option (List AggState)
some_states aggs [] = None
some_states aggs (row ∷ rows) = Some (states_of aggs (row ∷ rows))

-- the aggregates of the rows that have a key, if there are any
abbrev pub states_for : Shape → List (List Value) → List Value → Option (List AggState)
states_for shape rows key = some_states shape.aggs (filter (has_key shape.groups key) rows)

-- any groups with more rows in them: at each key the states of both, where there are any
pub record Adds (shape : Shape) (rows : List (List Value)) (old new : Groups) : Type 0 where
  pub each : (key : List Value) → finite.get new key
      ≡ join_some merged_rows (finite.get old key) (states_for shape rows key)

-- the states that a key has once these are merged with its own, where it has some
abbrev pub with_states : Groups → List Value → List AggState → List AggState
with_states groups key states =
    option_map_or (λ own. merged_rows own states) (finite.get groups key) states

-- the groups once these states are merged into that of a key
abbrev pub merged_in : Groups → List Value → List AggState → Groups
merged_in groups key states = finite.insert groups key (with_states groups key states)

-- the groups once states of several keys are merged in, one after the other
abbrev pub with_entries : Groups → List Group → Groups
with_entries groups [] = groups
with_entries groups (e ∷ es) = with_entries (merged_in groups e.0 e.1) es
