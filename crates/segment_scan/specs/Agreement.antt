-- Rows that are the same to a query, and images of which rows are read.
use Rattle.std.specs.Prelude.{◌≡◌, ℕ, Bool, true, List}
use Rattle.std.specs.List.{AllZip}
use Rattle.values.specs.declared.value.Value.{Value}
use Rattle.table_schema.specs.declared.query.BoundQuery.{BoundQuery}
use Rattle.table_schema.specs.Conditions.{cell}
use Rattle.group_table.specs.Kept.{KeptGroups}
use Rattle.scan_engine.specs.Scanned.{AddsRows, IsOverfull, selected}
use Rattle.segment_plan.specs.Named.{query_names}

-- the rows have the same value in each column that is named
abbrev pub Agree : (ℕ → Bool) → List Value → List Value → Type 0
Agree named row other = (column : ℕ) → named column ≡ true → cell row column ≡ cell other column

-- as many rows, each of which agrees with the other in its place
abbrev pub AgreeAll : (ℕ → Bool) → List (List Value) → List (List Value) → Type 0
AgreeAll named rows others = AllZip (Agree named) rows others

-- rows that agree in the columns that a query names satisfy its filter alike, and are added alike
-- to whatever groups
pub record AreSame (query : BoundQuery) (rows others : List (List Value)) : Type 0 where
  pub adds : (count : ℕ) (old new : KeptGroups) → AddsRows query count (selected query rows) old new
      → AddsRows query count (selected query others) old new
  pub overfull : (table : KeptGroups) → IsOverfull query (selected query rows) table
      → IsOverfull query (selected query others) table

-- rows with the same values in the columns that a query names are the same to it
abbrev pub AgreeingAreSame : Type 0
AgreeingAreSame = (query : BoundQuery) (rows others : List (List Value))
    → AgreeAll (query_names query) rows others → AreSame query rows others
