use Rattle.std.proofs.Common.{◌-◌, ◌≡◌, ◌≤◌, ◌++◌}
use Rattle.state_columns.specs.Region.{range}
use Rattle.star_builder.specs.Building.{Rising, Ordinary, group_nodes}
use Rattle.star_builder.proofs.groups.push_groups.Given as goal

abbrev pub invariant-loop-from : goal.invariant-loop-from
invariant-loop-from l = record {
  within : l.from ≤ l.end;
  left : l.nodes.items ++ group_nodes l.level l.from (range l.from l.end l.docs.docs)
      ≡ l.fn.nodes.items ++ group_nodes l.level l.fn.start (range l.fn.start l.end l.docs.docs);
  rising : Rising l.level (range l.from l.end l.docs.docs);
  ordinary : Ordinary l.level (range l.from l.end l.docs.docs);
}

abbrev pub decreases-loop-from : goal.decreases-loop-from
decreases-loop-from l = l.end - l.from
