-- Which columns of a text are enough for a query.
use Rattle.std.specs.Prelude.{◌≡◌, ℕ, Bool, true, List, get_or, IfSome}
use Rattle.std.specs.List.{All, AllZip}
use Rattle.values.specs.declared.value.Value.{Value}
use Rattle.table_schema.specs.Conditions.{cell}
use Rattle.table_schema.specs.declared.query.Agg.{Agg}
use Rattle.table_schema.specs.declared.query.BoundQuery.{BoundQuery}
use Rattle.table_schema.specs.declared.query.Conjunct.{Conjunct}
use Rattle.table_schema.specs.declared.query.Conjunct.TheVariants.{One, Many}
use Rattle.group_table.specs.Groups.{groups_of}
use Rattle.group_table.specs.Shape.{shape_of}
use Rattle.scan_engine.specs.Scanned.{selected}

-- the rows have the same value in each column that is named
abbrev pub Agree : (ℕ → Bool) → List Value → List Value → Type 0
Agree named row other = (column : ℕ) → named column ≡ true → cell row column ≡ cell other column

-- as many rows, each of which agrees with the other in its place
abbrev pub AgreeAll : (ℕ → Bool) → List (List Value) → List (List Value) → Type 0
AgreeAll named rows others = AllZip (Agree named) rows others

-- whether a column is marked; those beyond the marks are
abbrev pub is_marked : List Bool → ℕ → Bool
is_marked marks column = get_or marks column true

-- rows that agree in the columns that are marked are the same to a query
abbrev pub AreEnough : BoundQuery → List Bool → Type 0
AreEnough query marks = (rows others : List (List Value)) → AgreeAll (is_marked marks) rows others
    → groups_of (shape_of query) (selected query rows)
    ≡ groups_of (shape_of query) (selected query others)

-- what is marked stays so
abbrev pub StayMarked : List Bool → List Bool → Type 0
StayMarked old new = (column : ℕ) → is_marked old column ≡ true → is_marked new column ≡ true

-- the conjunct is a test of one column, which is marked, or all columns are
abbrev pub IsTestMarked : List Bool → Conjunct → Type 0
IsTestMarked marks (One column test) = is_marked marks column ≡ true
IsTestMarked marks (Many wide) = (column : ℕ) → is_marked marks column ≡ true

-- the aggregate takes no numbers, or those of a column that is marked
abbrev pub IsAggMarked : List Bool → Agg → Type 0
IsAggMarked marks agg = IfSome agg.column (λ column. is_marked marks column ≡ true)

-- each column that a query takes is marked
pub record AllMarked (query : BoundQuery) (marks : List Bool) : Type 0 where
  pub conjuncts : All (IsTestMarked marks) query.conjuncts
  pub groups : All (λ column. is_marked marks column ≡ true) query.groups
  pub aggs : All (IsAggMarked marks) query.aggs
