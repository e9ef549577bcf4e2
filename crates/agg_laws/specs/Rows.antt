-- Rows of states, one for each pair of a star-tree or aggregate of a query.
use Rattle.std.specs.Prelude.{ℕ, ◌+◌, ◌-◌, ◌/◌, ◌^◌, max, ℤ, pos, negsuc, List, [], ◌∷◌, map}
use Rattle.agg_laws.specs.declared.aggregate_kind.AggKind.{AggKind}
use Rattle.agg_laws.specs.declared.states.AggState.{AggState}
use Rattle.agg_laws.specs.declared.states.AggState.TheVariants.{Count, Sum, Least, Greatest}
use Rattle.agg_laws.specs.declared.states.AggState.TheVariants.{Average}
use Rattle.agg_laws.specs.States.{kind_of, state_of, unit_of, merged, Fits, IsStored}

-- the first numbers of some rows of numbers, and what is left of the rows
abbrev pub head_of : List ℤ → ℤ
head_of [] = pos 0
head_of (x ∷ xs) = x

-- the numbers of a row after the first, which are those of the next pairs
abbrev pub tail_of : List ℤ → List ℤ
tail_of [] = []
tail_of (x ∷ xs) = xs

-- the states of some rows of numbers, place by place: each has one number for each kind
abbrev pub row_of : List AggKind → List (List ℤ) → List AggState
row_of [] rows = []
row_of (k ∷ ks) rows = state_of k (map head_of rows) ∷ row_of ks (map tail_of rows)

-- the states of no row
abbrev pub units_of : List AggKind → List AggState
units_of ks = map unit_of ks

-- the kinds of some states
abbrev pub kinds_of : List AggState → List AggKind
kinds_of vs = map kind_of vs

-- merged place by place
abbrev pub merged_rows : List AggState → List AggState → List AggState
merged_rows [] ws = []
merged_rows (v ∷ vs) [] = []
merged_rows (v ∷ vs) (w ∷ ws) = merged v w ∷ merged_rows vs ws

-- each state can come from at most n values
abbrev pub RowFits : List AggState → ℕ → Type 0
RowFits [] n = Unit {0}
RowFits (v ∷ vs) n = Fits v n × RowFits vs n

-- each state can be stored
abbrev pub RowStored : List AggState → Type 0
RowStored [] = Unit {0}
RowStored (v ∷ vs) = IsStored v × RowStored vs

-- the least number of values that a sum can come from
abbrev pub sum_weight : ℤ → ℕ
sum_weight (pos s) = (s + (2 ^ 63 - 2)) / (2 ^ 63 - 1)
sum_weight (negsuc s) = s / 2 ^ 63 + 1

-- the least number of values that a state can come from, where it can come from some
abbrev pub weight_of : AggState → ℕ
weight_of (Count c) = c
weight_of (Sum s) = sum_weight s
weight_of (Least m) = 0
weight_of (Greatest m) = 0
weight_of (Average a) = a.count

-- the least number for all states of a row
abbrev pub row_weight : List AggState → ℕ
row_weight [] = 0
row_weight (v ∷ vs) = max (weight_of v) (row_weight vs)
