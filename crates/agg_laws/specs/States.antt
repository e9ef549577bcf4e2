-- States of any kind: what is kept of a list of whole numbers.
use Rattle.std.specs.Prelude.{ℕ, ◌+◌, ◌≤◌, nat_le, if◌then◌else◌, ℤ, pos, ◌+ℤ◌, None, List, length}
use Rattle.agg_laws.specs.declared.aggregate_kind.AggKind.{AggKind}
use Rattle.agg_laws.specs.declared.aggregate_kind.AggKind.TheVariants as kinds
use Rattle.agg_laws.specs.declared.states.AggState.{AggState}
use Rattle.agg_laws.specs.declared.states.AggState.TheVariants.{Count, Sum, Least, Greatest}
use Rattle.agg_laws.specs.declared.states.AggState.TheVariants.{Average}
use Rattle.agg_laws.specs.Numbers.{sum_of, least_of, greatest_of, average_of, lesser, greater}
use Rattle.agg_laws.specs.Numbers.{both_averages, SumFits, NumberFits, AverageFits, CountStored}
use Rattle.agg_laws.specs.Numbers.{SumStored, NumberStored, AverageStored, count_bytes, sum_bytes}
use Rattle.agg_laws.specs.Numbers.{number_bytes, average_bytes}

-- the aggregate that a state is of
abbrev pub kind_of : AggState → AggKind
kind_of (Count c) = kinds.Count
kind_of (Sum s) = kinds.Sum
kind_of (Least m) = kinds.Least
kind_of (Greatest m) = kinds.Greatest
kind_of (Average a) = kinds.Average

-- the state of a list of whole numbers
abbrev pub state_of : AggKind → List ℤ → AggState
state_of kinds.Count xs = Count (length xs)
state_of kinds.Sum xs = Sum (sum_of xs)
state_of kinds.Least xs = Least (least_of xs)
state_of kinds.Greatest xs = Greatest (greatest_of xs)
state_of kinds.Average xs = Average (average_of xs)

-- the state of no number
abbrev pub unit_of : AggKind → AggState
unit_of kinds.Count = Count 0
unit_of kinds.Sum = Sum (pos 0)
unit_of kinds.Least = Least None
unit_of kinds.Greatest = Greatest None
unit_of kinds.Average = Average (record { sum = pos 0; count = 0 })

-- the place of a kind among the others
abbrev pub rank_of : AggKind → ℕ
rank_of kinds.Count = 0
rank_of kinds.Sum = 1
rank_of kinds.Least = 2
rank_of kinds.Greatest = 3
rank_of kinds.Average = 4

-- the state of the numbers of both. States of two kinds are never merged: that of the lower one
-- stands, so that the laws need no premise
abbrev pub merged : AggState → AggState → AggState
merged (Count a) (Count b) = Count (a + b)
merged (Sum a) (Sum b) = Sum (a +ℤ b)
merged (Least a) (Least b) = Least (lesser a b)
merged (Greatest a) (Greatest b) = Greatest (greater a b)
merged (Average a) (Average b) = Average (both_averages a b)
merged a b = if nat_le (rank_of (kind_of a)) (rank_of (kind_of b)) then a else b

-- the state can come from at most n signed 64-bit numbers
abbrev pub Fits : AggState → ℕ → Type 0
Fits (Count c) n = c ≤ n
Fits (Sum s) n = SumFits s n
Fits (Least m) n = NumberFits m
Fits (Greatest m) n = NumberFits m
Fits (Average a) n = AverageFits a n

-- the state can be stored
abbrev pub IsStored : AggState → Type 0
IsStored (Count c) = CountStored c
IsStored (Sum s) = SumStored s
IsStored (Least m) = NumberStored m
IsStored (Greatest m) = NumberStored m
IsStored (Average a) = AverageStored a

-- its bytes
abbrev pub spelling : AggState → List ℕ
spelling (Count c) = count_bytes c
spelling (Sum s) = sum_bytes s
spelling (Least m) = number_bytes m
spelling (Greatest m) = number_bytes m
spelling (Average a) = average_bytes a
