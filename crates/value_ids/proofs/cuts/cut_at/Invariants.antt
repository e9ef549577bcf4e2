use Rattle.std.proofs.Common.{◌≤◌, ◌-◌, length}
use Rattle.value_ids.proofs.Halving.{Halved}
use Rattle.value_ids.proofs.cuts.cut_at.Given as goal

abbrev pub invariant-halves : goal.invariant-halves
invariant-halves l = record {
  order : l.low ≤ l.high;
  within : l.high ≤ length l.ascending.values.now;
  halved : Halved l.ascending.values.now l.bound l.low l.high;
}

abbrev pub decreases-halves : goal.decreases-halves
decreases-halves l = l.high - l.low
