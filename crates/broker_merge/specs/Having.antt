-- Which groups satisfy HAVING.
use Rattle.std.specs.Prelude.{◌≡◌, ℕ, ◌<◌, ℤ, pos, nat_lt, Bool, true, false, not, List, length, Option, Some, None}
use Rattle.std.specs.List.{filter, range_with_len}
use Rattle.std.specs.Ordering.{int_cmp}
use Rattle.values.specs.declared.test.CompareOp.{CompareOp}
use Rattle.values.specs.Order.{value_order}
use Rattle.values.specs.Tests.{op_holds, all_true, any_true}
use Rattle.agg_laws.specs.declared.averages.AverageState.{AverageState}
use Rattle.agg_laws.specs.declared.states.AggState.{AggState}
use Rattle.agg_laws.specs.declared.states.AggState.TheVariants.{Count, Sum, Least, Greatest}
use Rattle.agg_laws.specs.declared.states.AggState.TheVariants.{Average}
use Rattle.agg_laws.specs.Order.{average_order}
use Rattle.table_schema.specs.Conditions.{cell}
use Rattle.table_schema.specs.ValidQuery.{each_test, if_asked}
use Rattle.table_schema.specs.declared.query.Having.{Having}
use Rattle.table_schema.specs.declared.query.Having.TheOpen.{Having-F}
use Rattle.table_schema.specs.declared.query.Having.TheFolds.{fold-Having}
use Rattle.group_table.specs.Groups.{Group}
use Rattle.group_table.specs.Kept.{KeptGroups, group_at}
use Rattle.broker_merge.specs.Order.{state_in}

-- ---- one group

-- the least or greatest of some numbers and a number; of no numbers no comparison holds
abbrev pub number_holds : CompareOp → Option ℤ → ℤ → Bool
number_holds op None bound = false
number_holds op (Some number) bound = op_holds op (int_cmp number bound)

-- a whole number as the average of one
abbrev pub average_of_one : ℤ → AverageState
average_of_one bound = record { sum = bound; count = 1 }

-- an aggregate and a number; averages are compared as fractions
abbrev pub state_holds : CompareOp → AggState → ℤ → Bool
state_holds op (Count count) bound = op_holds op (int_cmp (pos count) bound)
state_holds op (Sum sum) bound = op_holds op (int_cmp sum bound)
state_holds op (Least least) bound = number_holds op least bound
state_holds op (Greatest greatest) bound = number_holds op greatest bound
state_holds op (Average average) bound = op_holds op (average_order average (average_of_one bound))

-- one condition, with whether the group satisfies each inner one in its place
abbrev pub having_step : Group → Having-F Bool → Bool
having_step group (Having-F.Group place op value) = op_holds op
    (value_order (cell group.0 place) value)
having_step group (Having-F.Agg place op number) = state_holds op (state_in group place) number
having_step group (Having-F.All inner) = all_true inner
having_step group (Having-F.Any inner) = any_true inner
having_step group (Having-F.Not inner) = not inner

-- whether the group satisfies the condition
abbrev pub group_holds : Group → Having → Bool
group_holds group = fold-Having Bool (having_step group)

-- ---- the groups of a query

-- the groups that satisfy what is asked; each where nothing is
abbrev pub asked_groups : Option Having → List Group → List Group
asked_groups None groups = groups
asked_groups (Some having) groups = filter (λ group. group_holds group having) groups

-- their places in a table
abbrev pub asked_places : KeptGroups → Option Having → List ℕ
asked_places table None = range_with_len 0 (length table.groups)
asked_places table (Some having) = filter (λ at. group_holds (group_at table at) having)
    (range_with_len 0 (length table.groups))

-- each test of the condition is of a group column of the table, or of an aggregate of it
abbrev pub are_tests : KeptGroups → Having → Bool
are_tests table = each_test
    (λ place value. nat_lt place table.columns) (λ place. nat_lt place (length table.kinds))

-- a table whose groups are by columns can be asked this
pub record IsAsked (table : KeptGroups) (having : Having) : Type 0 where
  pub grouped : 0 < table.columns
  pub tests : are_tests table having ≡ true

-- the same of a query that asks nothing, or this
abbrev pub MayBeAsked : KeptGroups → Option Having → Type 0
MayBeAsked table None = Unit {0}
MayBeAsked table (Some having) = IsAsked table having
