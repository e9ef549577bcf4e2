-- What a query asks of a star-tree of a segment, of which a head has dictionaries.
use Rattle.std.specs.Prelude.{◌≡◌, ℕ, ◌<◌, ◌&&◌, ◌||◌, true, false, pos, Bool, List, length, map, Option, None, slice_index_or}
use Rattle.std.specs.List.{All, list_all}
use Rattle.values.specs.declared.value.Value.{Value}
use Rattle.values.specs.declared.value.Value.TheVariants.{Whole}
use Rattle.table_schema.specs.declared.query.Agg.{Agg}
use Rattle.table_schema.specs.declared.query.Conjunct.{Conjunct}
use Rattle.table_schema.specs.Columns.{is_member}
use Rattle.segment_head.specs.Heads.{IsLoaded, Seen}
use Rattle.segment_plan.specs.Matched.{is_filtered, is_on, passes, values_in}
use Rattle.star_walk.specs.Walking.{is_among, some_ids}
use Rattle.star_reader.specs.declared.asked.GroupColumn.{GroupColumn}
use Rattle.star_answer.specs.Served.{pair_of}
use Rattle.segment_reads.specs.Docs.{field_of}

-- the values of a split dimension, which a head has where they were loaded
abbrev pub split_values : Seen → List ℕ → ℕ → List Value
split_values head split d = values_in head (field_of split d)

-- the value of an id
abbrev pub value_at : List Value → ℕ → Value
value_at values id = slice_index_or values id (Whole (pos 0))

-- the ids of the values that satisfy each conjunct that names the column alone, if one does
pub record AreMatched (conjuncts : List Conjunct) (column : ℕ) (values : List Value)
    (ids : Option (List ℕ)) : Type 0 where
  pub some : some_ids ids ≡ is_filtered conjuncts column
  pub each : (id : ℕ) → id < length values
      → is_among ids id ≡ list_all (passes column (value_at values id)) conjuncts

-- of some ids, or of all where none are told, those whose values satisfy one more conjunct, if it
-- names the column alone
pub record Intersects (column : ℕ) (values : List Value) (conjunct : Conjunct)
    (old new : Option (List ℕ)) : Type 0 where
  pub some : some_ids new ≡ (some_ids old || is_on column conjunct)
  pub each : (id : ℕ) → id < length values
      → is_among new id ≡ (is_among old id && passes column (value_at values id) conjunct)

-- for each of the first dimensions of a split order, the ids that satisfy all conjuncts on it
pub record AreTested (conjuncts : List Conjunct) (split : List ℕ) (head : Seen) (count : ℕ)
    (matched : List (Option (List ℕ))) : Type 0 where
  pub many : length matched ≡ count
  pub each : (d : ℕ) → d < count
      → AreMatched conjuncts (field_of split d) (split_values head split d)
      (slice_index_or matched d None)

-- for each of them, whether it is among the group columns
pub record AreGrouped (groups : List ℕ) (split : List ℕ) (count : ℕ) (grouped : List Bool)
    : Type 0 where
  pub many : length grouped ≡ count
  pub each : (d : ℕ) → d < count
      → slice_index_or grouped d false ≡ is_member groups (field_of split d)

-- group columns are split dimensions, with the values of these
pub record AreColumnsOf (groups : List ℕ) (split : List ℕ) (values : ℕ → List Value)
    (columns : List GroupColumn) : Type 0 where
  pub groups_are : map (λ column. field_of split column.dim) columns ≡ groups
  pub dims : All (λ column. column.dim < length split) columns
  pub values_are : All (λ column. column.values.now.values ≡ values column.dim) columns

-- aggregates are the pairs of these numbers
pub record ArePairsOf (aggs pairs : List Agg) (numbers : List ℕ) : Type 0 where
  pub aggs_are : map (pair_of pairs) numbers ≡ aggs
  pub among : All (λ n. n < length pairs) numbers
