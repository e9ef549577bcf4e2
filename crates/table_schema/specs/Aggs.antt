-- Aggregates: what a query asks for, and what a star-tree keeps of a group of rows.
use Rattle.std.specs.Prelude.{ℕ, Bool, true, false, ◌&&◌, ◌==◌, Option, Some, None}
use Rattle.agg_laws.specs.declared.aggregate_kind.AggKind.{AggKind}
use Rattle.agg_laws.specs.declared.aggregate_kind.AggKind.TheVariants.{Count, Sum, Least, Greatest, Average}
use Rattle.table_schema.specs.declared.query.Agg.{Agg}

-- both are COUNT, or both SUM, and so on
abbrev pub same_function : AggKind → AggKind → Bool
same_function Count Count = true
same_function Sum Sum = true
same_function Least Least = true
same_function Greatest Greatest = true
same_function Average Average = true
same_function _ _ = false

-- neither has a column, or both have the same one
abbrev pub same_column : Option ℕ → Option ℕ → Bool
same_column None None = true
same_column (Some m) (Some n) = m == n
same_column _ _ = false

-- the same function of the same column
abbrev pub same_agg : Agg → Agg → Bool
same_agg a b = same_function a.kind b.kind && same_column a.column b.column
