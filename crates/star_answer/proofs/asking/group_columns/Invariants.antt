use Rattle.std.proofs.Common.{take}
use Rattle.star_answer.specs.Tasks.{AreColumnsOf, split_values}
use Rattle.star_answer.proofs.asking.group_columns.Given as goal

abbrev pub invariant-loop-column : goal.invariant-loop-column
invariant-loop-column l = AreColumnsOf (take l.column-index l.groups) l.tree.split
    (split_values l.head l.tree.split) l.columns.items
