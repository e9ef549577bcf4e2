use Rattle.std.proofs.Common.{◌≡◌, map}
use Rattle.std.specs.List.{range_with_len}
use Rattle.segment_file.specs.Reading.{nodes_said}
use Rattle.segment_head.specs.Reading.{heads_read}
use Rattle.segment_file.specs.Rules.{HaveNodes, nodes_in}
use Rattle.segment_head.proofs.trees.check_trees.Given as goal

abbrev pub invariant-loop-tree : goal.invariant-loop-tree
invariant-loop-tree l =
    (l.trees.items ≡ map (λ t. nodes_said (nodes_in l.table (heads_read l.table l.sections l.bytes) t)) (range_with_len 0 l.tree))
    × HaveNodes l.table l.rows (heads_read l.table l.sections l.bytes) l.tree
