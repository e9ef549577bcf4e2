-- The kinds of aggregates.
use Rattle.std.specs.Prelude.{ℕ}
use Rattle.agg_laws.specs.declared.aggregate_kind.AggKind.{AggKind}
use Rattle.agg_laws.specs.declared.aggregate_kind.AggKind.TheVariants.{Count, Sum, Least, Greatest}
use Rattle.agg_laws.specs.declared.aggregate_kind.AggKind.TheVariants.{Average}

-- the bytes of a stored state
abbrev pub width_of : AggKind → ℕ
width_of Count = 8
width_of Sum = 16
width_of Least = 8
width_of Greatest = 8
width_of Average = 24
