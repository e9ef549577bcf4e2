use Rattle.std.proofs.Common.{◌≡◌, ◌<◌, ◌+◌, ◌-◌, ◌+ℤ◌, ℕ, get_or, length, pos, take}
use Rattle.agg_laws.specs.Numbers.{SumFits, sum_of}
use Rattle.coded_columns.specs.Coded.{most_rows}
use Rattle.coded_columns.specs.Slots.{in_slot}
use Rattle.coded_columns.proofs.summing.add_sums.Given as goal

abbrev pub invariant-loop-k : goal.invariant-loop-k
invariant-loop-k l = record {
  sums : (key : ℕ) → get_or l.sums key (pos 0) ≡ get_or l.fn.sums key (pos 0) +ℤ sum_of (in_slot key (take l.k l.keys) (take l.k l.numbers));
  fits : (key : ℕ) → key < length l.sums → SumFits (get_or l.sums key (pos 0)) (most_rows - length l.keys + l.k);
}
