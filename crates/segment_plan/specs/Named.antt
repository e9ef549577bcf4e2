-- Which columns a query names, and whether their dictionaries were loaded.
use Rattle.std.specs.Prelude.{◌≡◌, ◌<◌, ℕ, Bool, true, false, ◌||◌, ◌==◌, List, length, map, get_or, Result, IfOk}
use Rattle.std.specs.List.{list_any, range_with_len}
use Rattle.std.specs.Option.{option_map_or}
use Rattle.table_schema.specs.declared.query.Agg.{Agg}
use Rattle.table_schema.specs.declared.query.BoundQuery.{BoundQuery}
use Rattle.table_schema.specs.declared.query.Conjunct.{Conjunct}
use Rattle.table_schema.specs.declared.query.Conjunct.TheVariants.{One, Many}
use Rattle.table_schema.specs.declared.query.Wide.{Wide}
use Rattle.table_schema.specs.declared.query.Wide.TheOpen.{Wide-F}
use Rattle.table_schema.specs.declared.query.Wide.TheFolds.{fold-Wide}
use Rattle.table_schema.specs.declared.table.Table.{Table}
use Rattle.table_schema.specs.Columns.{is_member}
use Rattle.values.specs.Tests.{any_true}
use Rattle.segment_head.specs.Heads.{IsLoaded, Seen}

-- a number is in a list
abbrev pub is_in : List ℕ → ℕ → Bool
is_in numbers column = list_any (λ other. other == column) numbers

-- one condition, with whether each inner one names the column in its place
abbrev pub names_step : ℕ → Wide-F Bool → Bool
names_step column (Wide-F.Leaf other test) = other == column
names_step column (Wide-F.All inner) = any_true inner
names_step column (Wide-F.Any inner) = any_true inner

-- whether a test in the condition is of the column
abbrev pub wide_names : ℕ → Wide → Bool
wide_names column = fold-Wide Bool (names_step column)

-- whether a test in the conjunct is of the column
abbrev pub conjunct_names : ℕ → Conjunct → Bool
conjunct_names column (One other test) = other == column
conjunct_names column (Many wide) = wide_names column wide

-- whether the aggregate takes the numbers of the column; COUNT takes none
abbrev pub agg_names : ℕ → Agg → Bool
agg_names column agg = option_map_or (λ other. other == column) agg.column false

-- a condition, a group column or an aggregate of the query is of this column
abbrev pub query_names : BoundQuery → ℕ → Bool
query_names query column = list_any (conjunct_names column) query.conjuncts
    || is_in query.groups column || list_any (agg_names column) query.aggs

-- the dictionary of each column that the query names was loaded
abbrev pub AreNamedLoaded : BoundQuery → Seen → Type 0
AreNamedLoaded query head = (column : ℕ) → query_names query column ≡ true → IsLoaded head column

-- marks for the columns of a table, whether the query names them
abbrev pub names_in : BoundQuery → Table → List Bool
names_in query table = map (query_names query) (range_with_len 0 (length table.schema.fields))

-- the dictionary of each group column was loaded
abbrev pub AreGroupsLoaded : List ℕ → Seen → Type 0
AreGroupsLoaded groups head = (column : ℕ) → is_member groups column ≡ true → IsLoaded head column

-- marks for so many columns are made, each whether the column passes
pub record MarksColumns {A E : Type 0} (columns : ℕ) (result : Result A E) (items : A → List Bool)
    (passes : ℕ → Bool) : Type 0 where
  pub count : IfOk result (λ marks. length (items marks) ≡ columns)
  pub each : IfOk result (λ marks. (column : ℕ) → column < columns
      → get_or (items marks) column false ≡ passes column)
