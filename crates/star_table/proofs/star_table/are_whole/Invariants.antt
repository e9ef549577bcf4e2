use Rattle.std.proofs.Common.{take}
use Rattle.agg_laws.specs.Numbers.{AreWhole}
use Rattle.star_table.proofs.star_table.are_whole.Given as goal

abbrev pub invariant-loop-i : goal.invariant-loop-i
invariant-loop-i l = AreWhole (take l.i l.values)
