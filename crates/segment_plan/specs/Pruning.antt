-- Segments that the bounds of their columns exclude.
use Rattle.std.specs.Prelude.{Bool, false, not, ◌||◌, ◌==◌, List, Option, Some, None, slice_get}
use Rattle.std.specs.List.{list_any}
use Rattle.values.specs.declared.test.Test.{Test}
use Rattle.values.specs.Tests.{may_hold}
use Rattle.table_schema.specs.declared.query.BoundQuery.{BoundQuery}
use Rattle.table_schema.specs.declared.query.Conjunct.{Conjunct}
use Rattle.table_schema.specs.declared.query.Conjunct.TheVariants.{One, Many}
use Rattle.segment_file.specs.declared.bounds.Ends.{Ends}
use Rattle.segment_head.specs.Heads.{Seen}

-- a test may hold of no value between these bounds; where there are none, that is not known
abbrev pub excludes : Option Ends → Test → Bool
excludes None condition = false
excludes (Some ends) condition = not (may_hold ends.least ends.greatest condition)

-- a conjunct names one column, whose bounds exclude it
abbrev pub is_excluded : List Ends → Conjunct → Bool
is_excluded bounds (One column condition) = excludes (slice_get bounds column) condition
is_excluded bounds (Many condition) = false

-- there are no rows, or the bounds of a column exclude a conjunct on it
abbrev pub is_pruned : BoundQuery → Seen → Bool
is_pruned query head = head.rows == 0 || list_any (is_excluded head.bounds) query.conjuncts
