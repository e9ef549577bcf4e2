use Rattle.std.proofs.Common.{◌≡◌, ◌++◌, map}
use Rattle.std.specs.List.{range_with_len}
use Rattle.segment_file.specs.declared.part.Part.TheVariants.{Nodes}
use Rattle.segment_file.proofs.sections.push_nodes.Given as goal

abbrev pub invariant-loop-tree : goal.invariant-loop-tree
invariant-loop-tree l = l.parts.items ≡ l.initial.parts.items ++ map Nodes (range_with_len 0 l.tree)
