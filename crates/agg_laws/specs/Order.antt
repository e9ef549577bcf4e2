-- The order of states, by which the groups of a query are ordered.
use Rattle.std.specs.Prelude.{◌≤◌, max, ℤ, pos, ◌*ℤ◌, Option, Some, None}
use Rattle.std.specs.declared.cmp.Ordering.{Ordering}
use Rattle.std.specs.declared.cmp.Ordering.TheVariants.{Less, Equal, Greater}
use Rattle.std.specs.Ordering.{nat_cmp, int_cmp}
use Rattle.agg_laws.specs.declared.averages.AverageState.{AverageState}
use Rattle.agg_laws.specs.declared.states.AggState.{AggState}
use Rattle.agg_laws.specs.declared.states.AggState.TheVariants.{Count, Sum, Least, Greatest}
use Rattle.agg_laws.specs.declared.states.AggState.TheVariants.{Average}
use Rattle.agg_laws.specs.States.{kind_of, rank_of}

-- the state stands for one value at least
abbrev pub HasValues : AggState → Type 0
HasValues (Count c) = 1 ≤ c
HasValues (Sum s) = Unit {0}
HasValues (Least None) = ⊥
HasValues (Least (Some m)) = Unit {0}
HasValues (Greatest None) = ⊥
HasValues (Greatest (Some m)) = Unit {0}
HasValues (Average a) = 1 ≤ a.count

-- none comes first, and then numbers by value
abbrev pub number_order : Option ℤ → Option ℤ → Ordering
number_order None None = Equal
number_order None (Some y) = Less
number_order (Some x) None = Greater
number_order (Some x) (Some y) = int_cmp x y

-- the fractions of sum and count, by cross products. A count of 0, which no state of one value has,
-- is read as 1, so that this is an order of all states
abbrev pub average_order : AverageState → AverageState → Ordering
average_order a b = int_cmp (a.sum *ℤ pos (max 1 b.count)) (b.sum *ℤ pos (max 1 a.count))

-- states of one kind by their value, and others by their kinds
abbrev pub state_order : AggState → AggState → Ordering
state_order (Count a) (Count b) = nat_cmp a b
state_order (Sum a) (Sum b) = int_cmp a b
state_order (Least a) (Least b) = number_order a b
state_order (Greatest a) (Greatest b) = number_order a b
state_order (Average a) (Average b) = average_order a b
state_order a b = nat_cmp (rank_of (kind_of a)) (rank_of (kind_of b))
