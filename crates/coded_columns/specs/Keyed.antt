-- What is kept of rows by their keys: for each key a row that has it, and the aggregates.
use Rattle.std.specs.Prelude.{◌≡◌, ◌≢◌, ◌⊎◌, ◌<◌, ◌≤◌, ◌+◌, ◌-◌, ◌++◌, ℕ, ℤ, pos, List, Option, Some, length, get_or, map, set, true}
use Rattle.std.specs.List.{All}
use Rattle.std.specs.Option.{option_map_or}
use Rattle.values.specs.declared.value.Value.{Value}
use Rattle.values.specs.Columns.{row_of}
use Rattle.agg_laws.specs.Numbers.{AreWhole}
use Rattle.agg_laws.specs.States.{Fits, state_of}
use Rattle.agg_laws.specs.declared.aggregate_kind.AggKind.{AggKind}
use Rattle.agg_laws.specs.declared.aggregate_kind.AggKind.TheVariants as kinds
use Rattle.agg_laws.specs.declared.states.AggState.{AggState}
use Rattle.agg_laws.specs.declared.states.AggState.TheVariants.{Count, Sum}
use Rattle.state_columns.specs.Columns.{state_at}
use Rattle.value_ids.specs.Coding.{AreBelow}
use Rattle.table_schema.specs.Conditions.{cell}
use Rattle.table_schema.specs.declared.query.Agg.{Agg}
use Rattle.group_table.specs.Groups.{key_of, number_for, number_of}
use Rattle.scan_engine.specs.Places.{rows_at}
use Rattle.coded_columns.specs.Coded.{most_rows, table_of}
use Rattle.coded_columns.specs.Keys.{AreKeys, key_at}
use Rattle.coded_columns.specs.Slots.{in_slot}
use Rattle.coded_columns.specs.declared.coded.SegmentColumns.{SegmentColumns}
use Rattle.coded_columns.specs.declared.key_states.KeyStates.{KeyStates}
use Rattle.coded_columns.specs.declared.key_states.KeyStates.TheVariants as states
use Rattle.coded_columns.specs.declared.keyed_rows.KeyedRows.{KeyedRows}
use Rattle.coded_columns.specs.declared.placed_rows.PlacedRows.{PlacedRows}
use Rattle.coded_columns.specs.declared.row_numbers.RowNumbers.{RowNumbers}

-- ---- the states of one aggregate

-- the kind of the aggregate
abbrev pub kind_in : KeyStates → AggKind
kind_in (states.Counts counts) = kinds.Count
kind_in (states.Sums sums) = kinds.Sum
kind_in (states.Others column) = column.kind

-- for how many keys there is a state
abbrev pub size_in : KeyStates → ℕ
size_in (states.Counts counts) = length counts.items
size_in (states.Sums sums) = length sums.items
size_in (states.Others column) = length column.states

-- the state of a key
abbrev pub state_in : KeyStates → ℕ → AggState
state_in (states.Counts counts) key = Count (get_or counts.items key 0)
state_in (states.Sums sums) key = Sum (get_or sums.items key (pos 0))
state_in (states.Others column) key = state_at column key

-- the state of each key can come from so many rows
abbrev pub AllFit : ℕ → KeyStates → Type 0
AllFit n s = (key : ℕ) → key < size_in s → Fits (state_in s key) n

-- a number for each of some keys, which are no more than a segment has rows
pub record AreKeyed (keys : List ℕ) (numbers : List ℤ) : Type 0 where
  pub same : length numbers ≡ length keys
  pub at_most : length keys ≤ most_rows
  pub whole : AreWhole numbers

-- to the state of each key come the numbers that have it
pub record AddsNumbers (keys : List ℕ) (numbers : List ℤ) (old new : KeyStates) : Type 0 where
  pub kind : kind_in new ≡ kind_in old
  pub size : size_in new ≡ size_in old
  pub states : (before : ℕ → List ℤ) → ((key : ℕ) → key < size_in old
      → state_in old key ≡ state_of (kind_in old) (before key))
      → (key : ℕ) → key < size_in old → state_in new key
      ≡ state_of (kind_in old) (before key ++ in_slot key keys numbers)

-- ---- the numbers of rows

-- the rows in places
abbrev pub rows_in : PlacedRows → List (List Value)
rows_in placed = rows_at (table_of placed.segment.now).columns placed.places.now

-- the number of a row in a column; 0 where there is none
abbrev pub number_in : Option ℕ → List Value → ℤ
number_in column row = option_map_or (λ field. number_of (cell row field)) column (pos 0)

-- these are the numbers of some rows in a column
pub record AreNumbersIn (column : Option ℕ) (rows : List (List Value)) (numbers : List ℤ)
    : Type 0 where
  pub each : numbers ≡ map (number_in column) rows
  pub whole : AreWhole numbers

-- the numbers that are kept are those of these rows in the column that is told
abbrev pub AreOfRows : List (List Value) → RowNumbers → Type 0
AreOfRows rows own = (field : ℕ) → own.column ≡ Some field
    → AreNumbersIn (Some field) rows own.numbers.items

-- ---- the aggregates of rows by their keys

-- to the state of each key come the numbers of the rows that have it
pub record AddsAgg (agg : Agg) (keys : List ℕ) (rows : List (List Value)) (old new : KeyStates)
    : Type 0 where
  pub numbers : AddsNumbers keys (map (number_for agg) rows) old new
  pub whole : (kind_in old ≡ kinds.Count) ⊎ AreWhole (map (number_for agg) rows)

-- the same of each of some aggregates
pub record AllAdd (aggs : List Agg) (keys : List ℕ) (rows : List (List Value))
    (olds news : List KeyStates) : Type 0 where
  pub count : length news ≡ length olds
  pub each : (i : ℕ) (agg : Agg) (own : KeyStates) → i < length olds
      → AddsAgg (get_or aggs i agg) keys rows (get_or olds i own) (get_or news i own)

-- the states of an aggregate are those of the numbers of these rows, key by key
pub record HoldsAgg (size : ℕ) (keys : List ℕ) (rows : List (List Value)) (agg : Agg)
    (own : KeyStates) : Type 0 where
  pub kind : kind_in own ≡ agg.kind
  pub size_is : size_in own ≡ size
  pub whole : (agg.kind ≡ kinds.Count) ⊎ AreWhole (map (number_for agg) rows)
  pub states : (k : ℕ) → k < size → state_in own k
      ≡ state_of agg.kind (in_slot k keys (map (number_for agg) rows))

-- the same of each of some aggregates
pub record HoldAggs (size : ℕ) (keys : List ℕ) (rows : List (List Value)) (aggs : List Agg)
    (owns : List KeyStates) : Type 0 where
  pub count : length owns ≡ length aggs
  pub each : (i : ℕ) (agg : Agg) (own : KeyStates) → i < length aggs
      → HoldsAgg size keys rows (get_or aggs i agg) (get_or owns i own)

-- states to which the numbers of rows that have these keys can be added
pub record TakesKeys (keys : List ℕ) (own : KeyStates) : Type 0 where
  pub below : AreBelow (size_in own) keys
  pub fits : AllFit (most_rows - length keys) own

-- the same of each of some aggregates
pub record TakeKeys (aggs : List Agg) (keys : List ℕ) (owns : List KeyStates) : Type 0 where
  pub count : length owns ≡ length aggs
  pub each : All (TakesKeys keys) owns

-- ---- a row for each key

-- one more than the place of a row that has, in the group columns, the values of each row of the
-- key, or 0 where no row has it
pub record IsFirst (segment : SegmentColumns) (groups keys places : List ℕ) (k first : ℕ)
    : Type 0 where
  pub none : first ≡ 0 → (j : ℕ) → j < length keys → get_or keys j 0 ≢ k
  pub within : 0 < first → first - 1 < segment.count
  pub has : 0 < first → 0 < length (in_slot k keys places)
  pub same : 0 < first → (j : ℕ) → j < length places → get_or keys j 0 ≡ k
      → key_of groups (row_of (table_of segment).columns (get_or places j 0))
      ≡ key_of groups (row_of (table_of segment).columns (first - 1))

-- where keys are the packed ids of rows, they are few, and the row that is kept for a key has it
pub record ArePacked (segment : SegmentColumns) (groups : List ℕ) (rows : KeyedRows) : Type 0 where
  pub few : rows.are_packed ≡ true → length rows.firsts.items ≤ most_rows
  pub own : rows.are_packed ≡ true → (k : ℕ) → k < length rows.firsts.items
      → 0 < get_or rows.firsts.items k 0
      → key_at segment groups (get_or rows.firsts.items k 0 - 1) ≡ k

-- what is kept is that of these rows, which have these keys
pub record HoldsKeys (segment : SegmentColumns) (groups : List ℕ) (aggs : List Agg)
    (keys places : List ℕ) (rows : KeyedRows) : Type 0 where
  pub count : length keys ≡ length places
  pub below : (j : ℕ) → j < length keys → get_or keys j 0 < length rows.firsts.items
  pub firsts : (k : ℕ) → k < length rows.firsts.items
      → IsFirst segment groups keys places k (get_or rows.firsts.items k 0)
  pub packed : ArePacked segment groups rows
  pub states : HoldAggs (length rows.firsts.items) keys
      (rows_at (table_of segment).columns places) aggs rows.aggs.items

-- what is kept is that of these rows, by some keys of them
pub record HoldsRows (segment : SegmentColumns) (groups : List ℕ) (aggs : List Agg)
    (places : List ℕ) (rows : KeyedRows) : Type 0 where
  pub keys : List ℕ
  pub holds : HoldsKeys segment groups aggs keys places rows

-- a row is kept for a key; where keys are packed ids, it has the key
pub record IsKept (segment : SegmentColumns) (groups : List ℕ) (rows : KeyedRows) (k : ℕ) : Type 0
  where
    pub key : k < length rows.firsts.items
    pub some : 0 < get_or rows.firsts.items k 0
    pub within : get_or rows.firsts.items k 0 - 1 < segment.count
    pub packed : ArePacked segment groups rows

-- ---- rows by packed keys, block by block

-- one more than the place of a row of this key, or 0 where none of these rows has it
pub record HasFirst (count : ℕ) (key : ℕ → ℕ) (places : List ℕ) (k first : ℕ) : Type 0 where
  pub none : first ≡ 0 → (j : ℕ) → j < length places → key (get_or places j 0) ≢ k
  pub some : 0 < first → (first - 1 < count) × (key (first - 1) ≡ k)
  pub has : 0 < first → 0 < length (in_slot k (map key places) places)

-- what is kept is that of these rows, by their packed keys
pub record HoldsPacked (segment : SegmentColumns) (groups : List ℕ) (aggs : List Agg)
    (places : List ℕ) (rows : KeyedRows) : Type 0 where
  pub keys : AreKeys segment groups (length rows.firsts.items)
  pub firsts : (k : ℕ) → k < length rows.firsts.items
      → HasFirst segment.count (key_at segment groups) places k (get_or rows.firsts.items k 0)
  pub states : HoldAggs (length rows.firsts.items) (map (key_at segment groups) places)
      (rows_at (table_of segment).columns places) aggs rows.aggs.items

-- so many rows more can be added
pub record TakesRows (segment : SegmentColumns) (groups : List ℕ) (aggs : List Agg) (more : ℕ)
    (rows : KeyedRows) : Type 0 where
  pub keys : AreKeys segment groups (length rows.firsts.items)
  pub count : length rows.aggs.items ≡ length aggs
  pub sizes : All (λ own. size_in own ≡ length rows.firsts.items) rows.aggs.items
  pub fits : All (λ own. AllFit (most_rows - more) own) rows.aggs.items

-- what is kept of a key is the first row that has it, which is among the first so many
pub record IsSetBy (n : ℕ) (keys places : List ℕ) (k new : ℕ) : Type 0 where
  pub at : ℕ
  pub within : at < n
  pub has : get_or keys at 0 ≡ k
  pub first : (j : ℕ) → j < at → get_or keys j 0 ≢ k
  pub is : new ≡ get_or places at 0 + 1

-- what was kept of a key stays; of one that no row had the first row is kept, if there is one
abbrev pub SetsFirst : ℕ → List ℕ → List ℕ → ℕ → ℕ → ℕ → Type 0
SetsFirst n keys places k old new =
    ((new ≡ old) × (old ≡ 0 → (j : ℕ) → j < n → get_or keys j 0 ≢ k))
    ⊎ ((old ≡ 0) × IsSetBy n keys places k new)

-- a row of this key was met: it is kept if none was
pub record MeetsRow (key place : ℕ) (old new : List ℕ) : Type 0 where
  pub taken : get_or old key 0 ≡ 0 → new ≡ set old key (place + 1)
  pub kept : 0 < get_or old key 0 → new ≡ old

-- the rows in these places, which have these keys, were added
pub record AddsPlaces (placed : PlacedRows) (aggs : List Agg) (keys : List ℕ)
    (old new : KeyedRows) : Type 0 where
  pub size : length new.firsts.items ≡ length old.firsts.items
  pub firsts : (k : ℕ) → SetsFirst (length placed.places.now) keys placed.places.now k
      (get_or old.firsts.items k 0) (get_or new.firsts.items k 0)
  pub states : AllAdd aggs keys (rows_in placed) old.aggs.items new.aggs.items
