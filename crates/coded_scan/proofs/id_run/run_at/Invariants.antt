use Rattle.std.proofs.Common.{◌≡◌, ◌<◌, ◌≤◌, ◌+◌, ◌-◌, get_or, length}
use Rattle.coded_scan.proofs.id_run.run_at.Given as goal

abbrev pub invariant-loop-end : goal.invariant-loop-end
invariant-loop-end l = record {
  order : l.start ≤ l.last;
  within : l.last < l.end;
  bound : l.end ≤ length l.ids;
  follows : get_or l.ids l.last 0 + l.start ≡ get_or l.ids l.start 0 + l.last;
}

abbrev pub decreases-loop-end : goal.decreases-loop-end
decreases-loop-end l = l.end - l.last
