use Rattle.std.proofs.Common.{◌≡◌, ◌<◌, ℕ, get_or, pos}
use Rattle.agg_laws.specs.Numbers.{IsWhole}
use Rattle.group_table.specs.Groups.{number_of}
use Rattle.coded_columns.specs.Coded.{value_in}
use Rattle.coded_columns.proofs.row_numbers.put_by_ids.Given as goal

abbrev pub invariant-loop-k : goal.invariant-loop-k
invariant-loop-k l = record {
  each : (j : ℕ) → j < l.k → get_or l.out j (pos 0) ≡ number_of (value_in l.fn.column (get_or l.fn.placed.places.now j 0));
  whole : (j : ℕ) → j < l.k → IsWhole (get_or l.out j (pos 0));
}
