-- What the aggregates of a list of whole numbers are, apart from any number of a machine.
use Rattle.std.specs.Prelude.{ℕ, ◌+◌, ◌-◌, ◌*◌, ◌^◌, ◌≤◌, ℤ, pos, ◌+ℤ◌, neg_ℤ, ◌≤ℤ◌, Option, Some}
use Rattle.std.specs.Prelude.{None, List, [], ◌∷◌, ◌++◌, length}
use Rattle.std.specs.Int.{int_min, int_max, w64, w128, to_be_bytes, cast_unsigned}
use Rattle.agg_laws.specs.declared.averages.AverageState.{AverageState}

-- the sum of the numbers
abbrev pub sum_of : List ℤ → ℤ
sum_of [] = pos 0
sum_of (x ∷ xs) = x +ℤ sum_of xs

-- the lesser of two numbers, of which none gives way
abbrev pub lesser : Option ℤ → Option ℤ → Option ℤ
lesser None b = b
lesser (Some x) None = Some x
lesser (Some x) (Some y) = Some (int_min x y)

-- the least of the numbers, or none
abbrev pub least_of : List ℤ → Option ℤ
least_of [] = None
least_of (x ∷ xs) = lesser (Some x) (least_of xs)

-- the greater of two numbers, of which none gives way
abbrev pub greater : Option ℤ → Option ℤ → Option ℤ
greater None b = b
greater (Some x) None = Some x
greater (Some x) (Some y) = Some (int_max x y)

-- the greatest of the numbers, or none
abbrev pub greatest_of : List ℤ → Option ℤ
greatest_of [] = None
greatest_of (x ∷ xs) = greater (Some x) (greatest_of xs)

-- the sum of the numbers, and how many they are
abbrev pub average_of : List ℤ → AverageState
average_of xs = record { sum = sum_of xs; count = length xs }

-- both sums, and both counts
abbrev pub both_averages : AverageState → AverageState → AverageState
both_averages a b = record { sum = a.sum +ℤ b.sum; count = a.count + b.count }

-- a signed 64-bit number
abbrev pub IsWhole : ℤ → Type 0
IsWhole m = (neg_ℤ (pos (2 ^ 63)) ≤ℤ m) × (m ≤ℤ pos (2 ^ 63 - 1))

-- each of them is one
abbrev pub AreWhole : List ℤ → Type 0
AreWhole [] = Unit {0}
AreWhole (x ∷ xs) = IsWhole x × AreWhole xs

-- the sum of at most n signed 64-bit numbers
abbrev pub SumFits : ℤ → ℕ → Type 0
SumFits s n = (neg_ℤ (pos (n * 2 ^ 63)) ≤ℤ s) × (s ≤ℤ pos (n * (2 ^ 63 - 1)))

-- the least or greatest of some signed 64-bit numbers, or of none
abbrev pub NumberFits : Option ℤ → Type 0
NumberFits None = Unit {0}
NumberFits (Some m) = IsWhole m

-- the sum and the number of at most n signed 64-bit numbers
abbrev pub AverageFits : AverageState → ℕ → Type 0
AverageFits a n = (a.count ≤ n) × SumFits a.sum a.count

-- a segment has at most so many rows, so a stored state stands for at most so many values
abbrev pub most_stored : ℕ
most_stored = 1048576

-- a query covers at most so many rows
abbrev pub most_values : ℕ
most_values = 2 ^ 29

-- states that are stored: of one value at least, and of at most `most_stored`
abbrev pub CountStored : ℕ → Type 0
CountStored c = (1 ≤ c) × (c ≤ most_stored)

-- a sum that a stored document may have
abbrev pub SumStored : ℤ → Type 0
SumStored s = SumFits s most_stored

-- a least or greatest number that a stored document may have: one of 64 bits
abbrev pub NumberStored : Option ℤ → Type 0
NumberStored None = ⊥
NumberStored (Some m) = IsWhole m

-- an average that a stored document may have
abbrev pub AverageStored : AverageState → Type 0
AverageStored a = CountStored a.count × SumFits a.sum a.count

-- how stored states are spelled: numbers with the highest byte first, signed ones in two's
-- complement
unfoldable pub count_bytes : ℕ → List ℕ
count_bytes c = to_be_bytes w64 c

-- a sum as 16 bytes, the most significant first
unfoldable pub sum_bytes : ℤ → List ℕ
sum_bytes s = to_be_bytes w128 (cast_unsigned w128 s)

-- a least or greatest number as 8 bytes
unfoldable pub number_bytes : Option ℤ → List ℕ
number_bytes None = []
number_bytes (Some m) = to_be_bytes w64 (cast_unsigned w64 m)

-- an average as its sum and its count
unfoldable pub average_bytes : AverageState → List ℕ
average_bytes a = sum_bytes a.sum ++ count_bytes a.count
