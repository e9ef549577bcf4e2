use Rattle.std.proofs.Common.{◌≡◌, drop}
use Rattle.table_schema.specs.NeedIds.{is_split}
use Rattle.settings_parts.proofs.index_text.is_split.Given as goal

abbrev pub invariant-loop-tree : goal.invariant-loop-tree
invariant-loop-tree l = is_split (drop l.tree-index l.trees) l.number ≡ is_split l.trees l.number
