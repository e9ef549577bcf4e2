use Rattle.std.proofs.Common.{drop}
use Rattle.star_file.proofs.ChildLemmas.{Left}
use Rattle.star_file.proofs.children.children_keep.Given as goal

abbrev pub invariant-loop-i : goal.invariant-loop-i
invariant-loop-i l = record {
  on : Left l.rules 0 l.node.start 0 l.node.end l.subtrees
      → Left l.rules l.i l.from l.least l.node.end (drop l.i l.subtrees);
  back : Left l.rules l.i l.from l.least l.node.end (drop l.i l.subtrees)
      → Left l.rules 0 l.node.start 0 l.node.end l.subtrees;
}
