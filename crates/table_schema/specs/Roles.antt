-- Which fields are metrics, and which are of numbers.
use Rattle.std.specs.Prelude.{Bool, true, false, Option, Some, None}
use Rattle.data_types.specs.declared.kind.FieldKind.{FieldKind}
use Rattle.data_types.specs.declared.kind.FieldKind.TheVariants as kind
use Rattle.table_schema.specs.declared.field.Role.{Role}
use Rattle.table_schema.specs.declared.field.Role.TheVariants.{Dimension, Metric, DateTime}
use Rattle.table_schema.specs.declared.field.Field.{Field}

-- a metric of texts, which no schema may have
abbrev pub is_text_metric : Role → FieldKind → Bool
is_text_metric Metric kind.Text = true
is_text_metric role kind = false

-- the type is INT or LONG
abbrev pub is_number : FieldKind → Bool
is_number kind.Text = false
is_number kind.Int = true
is_number kind.Long = true

-- a field of numbers
abbrev pub is_numeric : Option Field → Bool
is_numeric None = false
is_numeric (Some f) = is_number f.kind

-- the role is that of a metric, not that of a dimension or of a date
abbrev pub is_metric : Role → Bool
is_metric Metric = true
is_metric Dimension = false
is_metric DateTime = false

-- there is a field, and it is a metric
abbrev pub is_metric_at : Option Field → Bool
is_metric_at None = false
is_metric_at (Some f) = is_metric f.role
