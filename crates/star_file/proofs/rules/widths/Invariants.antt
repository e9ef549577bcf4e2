use Rattle.std.proofs.Common.{◌≡◌, ◌≤◌, ◌+◌, ◌*◌, drop}
use Rattle.star_file.specs.Rules.{widths}
use Rattle.star_file.proofs.rules.widths.Given as goal

abbrev pub invariant-loop-i : goal.invariant-loop-i
invariant-loop-i l = record {
  sum : l.sum + widths (drop l.i l.kinds) ≡ widths l.kinds;
  bound : l.sum ≤ 24 * l.i;
}
