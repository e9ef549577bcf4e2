use Rattle.std.proofs.Common.{◌≡◌, ◌+◌, ◌-◌, ◌+ℤ◌, length, take}
use Rattle.agg_laws.specs.Numbers.{SumFits, sum_of}
use Rattle.coded_columns.specs.Coded.{most_rows}
use Rattle.coded_columns.proofs.summing.total_of.Given as goal

abbrev pub invariant-loop-k : goal.invariant-loop-k
invariant-loop-k l = record {
  total : l.total ≡ l.sum +ℤ sum_of (take l.k l.numbers);
  fits : SumFits l.total (most_rows - length l.numbers + l.k);
}
