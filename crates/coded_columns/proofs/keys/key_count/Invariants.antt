use Rattle.std.proofs.Common.{take}
use Rattle.coded_columns.specs.Keys.{AreKeys}
use Rattle.coded_columns.proofs.keys.key_count.Given as goal

abbrev pub invariant-loop-group : goal.invariant-loop-group
invariant-loop-group l = AreKeys l.segment (take l.group-index l.groups) l.size
